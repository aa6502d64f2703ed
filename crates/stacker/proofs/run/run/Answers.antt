-- A refusal returns before the first store; else `run_levels` on the levels that the tests found.
use Rattle.std.proofs.Common.{refl, ◌≡◌, arith}
use Rattle.refusals.specs.Refused.{refusal_number}
use Rattle.refusals.specs.RefusedLaws.{some-number}
use Rattle.stacker.specs.RanLaws.{ran-refused, runnable, ran-accepted}
use Rattle.stacker.proofs.run.run.Goals as goal

pub returns-in-Err : goal.returns-in-Err
returns-in-Err c =
    let some = some-number c.in-Err.refusal in
    let h : refusal_number c.in-Err.refusal ≡ 0 → ⊥ = λ z. absurd (omega (arith, z, some)) in
    rw c.refused.ensures (ran-refused c.in-Err.ensures h)

pub run_levels-totals-requires : goal.run_levels-totals-requires
run_levels-totals-requires c = runnable c.in-Ok.ensures refl

pub returns : goal.returns
returns c = rw c.accepted.ensures (ran-accepted c.in-Ok.ensures refl c.run_levels-totals.ensures)
