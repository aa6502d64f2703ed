use Rattle.sequences.specs.Sum.{sum-start, sum-turn, sum_done, sum-most}
use Rattle.align_field.specs.Prelude.{refl, ap, arith, rules}
use Rattle.align_field.specs.LevelSums.{finer_rows, residuals}
use Rattle.align_field.proofs.Placing.{place-start, place-turn, place-done}
use Rattle.align_field.specs.LoopLaws.{tiles-few, place-few}
use Rattle.align_field.specs.Loops.{finest_in}
use Rattle.align_field.proofs.finest_field.Goals as goal

pub loop-k-init : goal.loop-k-init
loop-k-init c = (place-start c.requires.room, sum-start, sum-start, refl, refl, refl)

pub level_tile-found-requires : goal.level_tile-found-requires
level_tile-found-requires c =
    let at = place-few c.requires.few c.loop-k.k c.loop-k-test.true in
    record { stored = c.requires.stored; led = record { level_most = omega arith; vectors = λ h. c.requires.coarse_vectors }; sided = c.requires.sided; row-most = at.0; column-most = at.1; room = record { samples_room = omega (arith, c.loop-k.invariant.3); window_room = omega (arith, c.loop-k.invariant.4); other_room = omega (arith, c.loop-k.invariant.5) } }

pub hand_over-requires : goal.hand_over-requires
hand_over-requires c = (omega (arith, c.loop-k.invariant.0.writing.same, c.loop-k-test.true, c.requires.room), c.level_tile-found.ensures.near)

pub overflow_add-residual : goal.overflow_add-residual
overflow_add-residual c = omega (arith, c.loop-k.invariant.1.most, c.level_tile-found.ensures.most, tiles-few c.requires.few)

pub overflow_add-rows : goal.overflow_add-rows
overflow_add-rows c = omega (arith, c.loop-k.invariant.2.most, c.level_tile-found.ensures.few, tiles-few c.requires.few)

pub loop-k-preserved : goal.loop-k-preserved
unfolding finest_in
loop-k-preserved c =
    let e = c.level_tile-found.ensures in
    let v = ap (λ r. r.vector) e.is in (
      rw c.hand_over.ensures (place-turn c.loop-k.invariant.0 c.loop-k-test.true (ap (λ v. v.down) v) (ap (λ v. v.right) v)),
      sum-turn c.loop-k.invariant.1 c.loop-k-test.true (ap (λ r. r.residual) e.is) e.most,
      sum-turn c.loop-k.invariant.2 c.loop-k-test.true (ap (λ r. r.rows) e.is) e.few,
      search rules,
      search rules,
      search rules,
    )

pub returns : goal.returns
unfolding residuals finer_rows
returns c =
    let l = c.loop-k.invariant in
    record {
      vectors = place-done l.0 c.loop-k-test.false;
      residual_is = sum_done l.1 c.loop-k-test.false;
      most = omega (arith, sum-most l.1 c.loop-k-test.false, tiles-few c.requires.few);
      rows_are = sum_done l.2 c.loop-k-test.false;
      few = omega (arith, sum-most l.2 c.loop-k-test.false, tiles-few c.requires.few);
    }
