-- What a lent buffer or a returned field holds after a call, by the number that the call answered.
use Rattle.algebra.specs.Prelude.{ℕ, zero, suc}

-- "the right result [..] or, after a numbered refusal, exactly what they held before"
unfoldable pub after : {A : Type 0} → (number : ℕ) (held result : A) → A
after zero held result = result
after (suc number) held result = held
