-- A row of both frames a turn, from the two rows of pairs of tiles that are held.
use Rattle.std.specs.Prelude.{◌≡◌, ◌+◌, ◌*◌}
use Rattle.range_frame.specs.Prelude.{subst, ◌∙◌, arith, scene_at, greatest_at, least_at, at_noises}
use Rattle.range_frame.specs.Held.{RowsRanged}
use Rattle.range_frame.specs.HeldLaws.{ends_held, ends-kept}
use Rattle.range_frame.specs.BandLaws.{row-ready, band-start, band-turn}
use Rattle.range_frame.proofs.planes.range_band.Goals as goal

pub end_row-requires : goal.end_row-requires
end_row-requires c =
    let l = c.requires.lent in
    record { accepted = l.accepted; upper_fits = l.upper_fits; parity = c.requires.parity; row-most = omega (arith, c.requires.band_below); room = l.room }

pub loop-i-init : goal.loop-i-init
loop-i-init c = band-start

pub output_rows-requires : goal.output_rows-requires
unfolding scene_at
output_rows-requires c =
    let a = c.args in
    let b = a.burst in
    let t = c.requires.lent in
    let above = ends-kept c.end_row.ensures c.requires.held in
    let under = ends_held c.end_row.ensures t.room in
    let rows = c.loop-i.invariant.rows a.upper above under in
    record {
      wide = t.accepted.burst.allowed.wide.most;
      room = omega (arith, t.room, c.end_row.ensures.same);
      low_ready = row-ready b.merge a.upper b.samples.now b.vectors.now t.accepted c.requires.parity c.requires.band_below c.loop-i-test.true greatest_at above.greatest under.greatest (rows.lows.toward.same ∙ t.low_long);
      high_ready = row-ready b.merge a.upper b.samples.now b.vectors.now t.accepted c.requires.parity c.requires.band_below c.loop-i-test.true least_at above.least under.least (rows.highs.toward.same ∙ t.high_long);
    }

pub loop-i-preserved : goal.loop-i-preserved
loop-i-preserved c =
    let t = c.requires.lent in
    band-turn t.accepted c.requires.parity c.requires.band_below c.loop-i-test.true t.low_long t.high_long c.loop-i.invariant c.output_rows.ensures.low_is c.output_rows.ensures.high_is

pub returns : goal.returns
unfolding scene_at
returns c =
    let a = c.args in
    let b = a.burst in
    let under = ends_held c.end_row.ensures c.requires.lent.room in
    let all : 8 * a.band + c.loop-i.i ≡ 8 * a.band + 8 = omega (arith, c.loop-i.invariant.count) in
    record {
      rows = subst (λ n. at_noises RowsRanged b.merge a.upper b.samples.now b.vectors.now a.parity (8 * a.band) n a.low.now c.loop-i.low a.high.now c.loop-i.high) all
          (c.loop-i.invariant.rows a.upper (ends-kept c.end_row.ensures c.requires.held) under);
      held = under;
    }
