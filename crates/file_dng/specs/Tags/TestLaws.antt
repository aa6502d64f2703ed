-- Tests joined by "or", as code decides them one by one.
use Rattle.algebra.specs.Prelude.{refl, sym, ◌∙◌, ℕ, suc, arith}
use Rattle.std.specs.Prelude.{Bool, true, false, ◌||◌, ◌≡◌, ◌≤◌}
use Rattle.std.proofs.lemmas.Bool.{false≢true}

-- a number that is none of 0 .. n
pub past : {n k : ℕ} → n ≤ k → (k ≡ n → ⊥) → suc n ≤ k
past h e = omega arith

pub neither : (a b : Bool) → (a || b) ≡ false → (a ≡ false) × (b ≡ false)
neither false b e = (refl, e)
neither true b e = absurd (false≢true (sym e))

-- t is the first test: it decides, or the rest does
pub hits : {t a : Bool} (b : Bool) → t ≡ a → t ≡ true → true ≡ (a || b)
hits b e h = rw (sym e ∙ h)

pub misses : {t u a b : Bool} → t ≡ a → t ≡ false → u ≡ b → u ≡ (a || b)
misses e h k = rw (sym e ∙ h) k
