-- Values of lists that are one value over and over, or two lists joined.
use Rattle.std.specs.Prelude.{◌≡◌, ◌∷◌, ◌++◌, ◌≤◌}
use Rattle.witnesses.specs.Prelude.{refl, List, [], ℕ, zero, suc, arith, get_or, replicate}

-- every value of both lists is at most m
pub append-most : (m : ℕ) (a b : List ℕ) → ((k : ℕ) → get_or a k 0 ≤ m) → ((k : ℕ) → get_or b k 0 ≤ m) → (k : ℕ) → get_or (a ++ b) k 0 ≤ m
append-most m [] b h l k = l k
append-most m (x ∷ a) b h l zero = h zero
append-most m (x ∷ a) b h l (suc k) = append-most m a b (λ i. h (suc i)) l k

pub replicate-most : (m n v : ℕ) → v ≤ m → (k : ℕ) → get_or (replicate n v) k 0 ≤ m
replicate-most m zero v h k = omega arith
replicate-most m (suc n) v h zero = h
replicate-most m (suc n) v h (suc k) = replicate-most m n v h k

-- where the value is 0, every value is, inside and outside
pub replicate-none : (n k : ℕ) → ◌≡◌ {A = ℕ} (get_or (replicate n 0) k 0) 0
replicate-none zero k = refl
replicate-none (suc n) zero = refl
replicate-none (suc n) (suc k) = replicate-none n k
