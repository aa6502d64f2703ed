-- Zeros written from the front.
use Rattle.algebra.specs.Prelude.{refl, ap, ◌∙◌, List, [], ℕ, zero, suc, ℤ, pos}
use Rattle.std.specs.Prelude.{length, replicate, ◌≡◌, ◌∷◌, ◌++◌}
use Rattle.sequences.specs.Tab.{tab}
use Rattle.sequences.specs.Clear.{zeros}

-- zeros of a buffer of the same length
pub zeros-length : (a b : List ℤ) → length a ≡ length b → zeros a ≡ zeros b
unfolding zeros
zeros-length a b e = ap (λ n. replicate n (pos 0)) e

rep-snoc : {A : Type 0} (v : A) (n : ℕ) → replicate n v ++ (v ∷ []) ≡ v ∷ replicate n v
rep-snoc v zero = refl
rep-snoc v (suc n) = ap (λ l. v ∷ l) (rep-snoc v n)

pub tab-const : {A : Type 0} (v : A) (n : ℕ) → tab n (λ _. v) ≡ replicate n v
unfolding tab
tab-const v zero = refl
tab-const v (suc n) = ap (λ l. l ++ (v ∷ [])) (tab-const v n) ∙ rep-snoc v n
