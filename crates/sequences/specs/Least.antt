-- The first place among 0 .. n whose value no other's beats, and the first at which f is least.
use Rattle.algebra.specs.Prelude.{Bool, true, false, ℕ, zero, suc, ltb}

abbrev pub pick : Bool → ℕ → ℕ → ℕ
pick true a b = a
pick false a b = b

-- by the rule which of two values beats the other: a tie leaves the earlier place
unfoldable pub first_by : (beats : ℕ → ℕ → Bool) → (ℕ → ℕ) → ℕ → ℕ
first_by beats f zero = 0
first_by beats f (suc n) = pick (beats (f (suc n)) (f (first_by beats f n))) (suc n) (first_by beats f n)

abbrev pub first_min : (ℕ → ℕ) → ℕ → ℕ
first_min f n = first_by ltb f n
