use Rattle.algebra.specs.Prelude.{refl, arith, lit<}
use Rattle.align_search.specs.Trials.LeaveLaws.{run-start, run-done}
use Rattle.align_search.proofs.trials.PairRows.{pair_turn, pair_left}
use Rattle.align_search.proofs.trials.sixteen.AbsoluteTrial.try_offset.Goals as goal

pub loop-i-init : goal.loop-i-init
loop-i-init c = run-start

pub returns-then-both-limit : goal.returns-then-both-limit
returns-then-both-limit c =
    let l = c.loop-i in
    let e = c.clipped-limit.ensures.same (omega (arith, l.invariant.most, c.absolute_pair.ensures.1, c.if-both-limit.true)) in
    pair_left _ _ _ _ _ _ _ l.invariant (omega arith) c.absolute_pair.ensures.0 (omega arith) (omega arith) e c.if-both-limit.true c.absolute_row.ensures.0 c.leave.ensures

pub loop-i-preserved : goal.loop-i-preserved
loop-i-preserved c =
    pair_turn _ _ _ _ _ _ _ c.loop-i.invariant (omega arith) c.absolute_pair.ensures.0 (omega arith) (omega arith) c.absolute_pair.ensures.1 (omega (arith, c.clipped-limit.ensures.below, c.if-both-limit.false))

pub returns : goal.returns
returns c = run-done c.loop-i.invariant (omega arith) (lit< tt) refl refl
