use Rattle.std.specs.Prelude.{◌/◌, ◌%◌}
use Rattle.align_pyramid.specs.WordsLaws.{writing-kept}
use Rattle.sequences.specs.Sum.{sum-start, sum-turn, sum_done, sum-most}
use Rattle.align_field.specs.Prelude.{refl, ap, ◌∙◌, arith, rules}
use Rattle.align_field.proofs.Placing.{place-start, place-turn, place-done}
use Rattle.align_field.specs.LoopLaws.{tiles-few, place-few, kept-stored, kept-vectors, kept-answer}
use Rattle.align_field.proofs.level_field.Goals as goal

pub loop-k-init : goal.loop-k-init
loop-k-init c = (place-start c.requires.fits.room, sum-start, refl, refl, refl)

pub level_tile-found-requires : goal.level_tile-found-requires
level_tile-found-requires c =
    let at = place-few c.requires.fits.few c.loop-k.k c.loop-k-test.true in
    let led = c.requires.led in
    let kept = writing-kept c.loop-k.invariant.0.writing in
    record {
      stored = kept-stored kept c.args.area c.requires.fits.stored c.requires.fits.before;
      led = record { level_most = led.level_most; vectors = λ h. kept-vectors kept c.args.step.coarse (c.requires.ends.end h) (led.vectors h) };
      sided = c.requires.sided;
      row-most = at.0;
      column-most = at.1;
      room = record { samples_room = omega (arith, c.loop-k.invariant.2); window_room = omega (arith, c.loop-k.invariant.3); other_room = omega (arith, c.loop-k.invariant.4) };
    }

pub put-requires : goal.put-requires
put-requires c = (omega (arith, c.loop-k.invariant.0.writing.same, c.loop-k-test.true, c.requires.fits.room), c.level_tile-found.ensures.near)

pub overflow_add-summed : goal.overflow_add-summed
overflow_add-summed c = omega (arith, c.loop-k.invariant.1.most, c.level_tile-found.ensures.few, tiles-few c.requires.fits.few)

pub loop-k-preserved : goal.loop-k-preserved
loop-k-preserved c =
    let s = c.args.step in
    let k = c.loop-k.k in
    let columns = c.args.grid.columns in
    let kept = writing-kept c.loop-k.invariant.0.writing in
    let e = c.level_tile-found.ensures.is ∙ kept-answer kept c.args.area c.requires.fits.stored c.requires.fits.before s.side s.coarse s.level c.requires.led c.requires.ends (k / columns) (k % columns) in (
      rw c.put.ensures (place-turn c.loop-k.invariant.0 c.loop-k-test.true (ap (λ r. r.vector.down) e) (ap (λ r. r.vector.right) e)),
      sum-turn c.loop-k.invariant.1 c.loop-k-test.true (ap (λ r. r.rows) e) c.level_tile-found.ensures.few,
      search rules,
      search rules,
      search rules,
    )

pub returns : goal.returns
returns c =
    let l = c.loop-k.invariant in
    record { vectors = place-done l.0 c.loop-k-test.false; rows_are = sum_done l.1 c.loop-k-test.false; few = omega (arith, sum-most l.1 c.loop-k-test.false, tiles-few c.requires.fits.few) }
