-- What a call owes where it has refused with the number k, and where it has accepted.
use Rattle.std.specs.Prelude.{◌≡◌}
use Rattle.algebra.specs.Prelude.{refl, ℕ, zero, suc, arith}
use Rattle.refusals.specs.After.{after}

-- a refusal leaves what was held
pub kept : {A : Type 0} {k : ℕ} (number : ℕ) (held result : A) → k ≡ number → (k ≡ 0 → ⊥) → held ≡ after number held result
unfolding after
kept zero held result e h = absurd (h e)
kept (suc n) held result e h = refl

-- acceptance leaves the result
pub made : {A : Type 0} {k : ℕ} {x : A} (number : ℕ) (held result : A) → k ≡ number → k ≡ 0 → x ≡ result → x ≡ after number held result
unfolding after
made zero held result e z is = is
made (suc n) held result e z is = absurd (omega arith)

-- what is held after acceptance is the result
pub result-made : {A : Type 0} (number : ℕ) (held result : A) {x : A} → number ≡ 0 → x ≡ after number held result → x ≡ result
unfolding after
result-made zero held result z e = e
result-made (suc n) held result z e = absurd (omega arith)
