-- Inner vocabulary: the steps by the number of the level that they lead to.
use Rattle.align_level.specs.Prelude.{ℕ, zero, suc, Step, finest_step, step2to1, step3to2}

abbrev pub step_to : (side : ℕ) → ℕ → Step
step_to side zero = finest_step side
step_to side (suc zero) = step2to1
step_to side (suc (suc k)) = step3to2
