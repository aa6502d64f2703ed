-- A hit refuses, the end accepts.
use Rattle.std.proofs.Common.{sym, ap, arith}
use Rattle.std.proofs.Common.{lt-ltb, le-ltb}
use Rattle.noise.specs.Prelude.{refuse}
use Rattle.refusals.specs.Numbers as no
use Rattle.refusals.specs.SomeLaws.{one, pass-start, pass-turn, pass-done}
use Rattle.noise.specs.Levels.{black_refusal}
use Rattle.noise.proofs.black_refusal.Goals as goal

pub loop-level-init : goal.loop-level-init
loop-level-init c = pass-start

pub returns-then-level-gt-BLACK_MOST : goal.returns-then-level-gt-BLACK_MOST
unfolding black_refusal
returns-then-level-gt-BLACK_MOST c = ap (refuse no.black_level) (sym (one _ _ _ (omega arith) (lt-ltb _ _ c.if-level-gt-BLACK_MOST.true)))

pub loop-level-preserved : goal.loop-level-preserved
loop-level-preserved c = pass-turn c.loop-level.invariant (omega arith) (le-ltb _ _ c.if-level-gt-BLACK_MOST.false)

pub returns : goal.returns
unfolding black_refusal
returns c = ap (refuse no.black_level) (sym (pass-done c.loop-level.invariant (omega arith)))
