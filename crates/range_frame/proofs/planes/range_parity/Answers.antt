-- A band a turn, each under the row of pairs of tiles that the one before has left.
use Rattle.std.specs.Prelude.{◌≡◌, ◌*◌, ◌/◌}
use Rattle.range_frame.specs.Prelude.{subst, ◌∙◌, arith, scene_at, at_noises}
use Rattle.range_frame.specs.Held.{RowsRanged}
use Rattle.range_frame.specs.HeldLaws.{ends_held}
use Rattle.range_frame.specs.BandLaws.{ranged-start, ranged-on}
use Rattle.range_frame.proofs.planes.range_parity.Goals as goal

pub end_row-requires : goal.end_row-requires
end_row-requires c =
    let l = c.requires.lent in
    record { accepted = l.accepted; upper_fits = l.upper_fits; parity = c.requires.parity; row-most = omega arith; room = l.room }

pub loop-band-init : goal.loop-band-init
unfolding scene_at
loop-band-init c = record { rows = ranged-start; held = ends_held c.end_row.ensures c.requires.lent.room; long = c.end_row.auto.work; most = omega arith }

pub range_band-requires : goal.range_band-requires
range_band-requires c =
    let t = c.requires.lent in
    let w = c.loop-band.invariant in
    record {
      lent = record {
        accepted = t.accepted;
        upper_fits = t.upper_fits;
        low_long = w.rows.lows.toward.same ∙ t.low_long;
        high_long = w.rows.highs.toward.same ∙ t.high_long;
        room = omega (arith, t.room, w.long);
      };
      parity = c.requires.parity;
      band_below = omega arith;
      held = w.held;
    }

pub loop-band-preserved : goal.loop-band-preserved
loop-band-preserved c =
    let a = c.args in
    let b = a.burst in
    let w = c.loop-band.invariant in
    record {
      rows = subst (λ n. at_noises RowsRanged b.merge a.upper b.samples.now b.vectors.now a.parity 0 n a.low.now c.range_band.new.low a.high.now c.range_band.new.high) (omega arith) (ranged-on w.rows c.range_band.ensures.rows);
      held = c.range_band.ensures.held;
      long = c.range_band.auto.work ∙ w.long;
      most = omega arith;
    }

pub returns : goal.returns
returns c =
    let a = c.args in
    let b = a.burst in
    let all : c.loop-band.band ≡ b.merge.shape.height / 16 = omega (arith, c.loop-band.invariant.most) in
    subst (λ n. at_noises RowsRanged b.merge a.upper b.samples.now b.vectors.now a.parity 0 (8 * n) a.low.now c.loop-band.low a.high.now c.loop-band.high) all c.loop-band.invariant.rows
