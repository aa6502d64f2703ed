-- The digits of n by cases of n, and how many there are at most.
use Rattle.printing.specs.Prelude.{refl, sym, ap, List, [], ℕ, zero, suc, arith}
use Rattle.std.proofs.Common.{pow-suc, length-append}
use Rattle.std.proofs.Common.{inl, inr, lit≤}
use Rattle.std.proofs.lemmas.Bool.{cases_lt}
use Rattle.std.specs.Prelude.{length, take, set, ◌≡◌, ◌∷◌, ◌++◌, ◌/◌, ◌%◌, ◌^◌, ◌≤◌, ◌<◌, ◌+◌}
use Rattle.printing.specs.Decimal.{digit, digits, decimal}

-- a count of n is enough: a larger one changes nothing
digits-enough : (j k n : ℕ) → n ≤ j → n ≤ k → digits j n ≡ digits k n
unfolding digits
digits-enough zero zero n h g = refl
digits-enough zero (suc k) (suc m) h g = elim h [ ]
digits-enough (suc j) zero (suc m) h g = elim g [ ]
digits-enough zero (suc k) zero h g = refl
digits-enough (suc j) zero zero h g = refl
digits-enough (suc j) (suc k) zero h g = refl
digits-enough (suc j) (suc k) (suc m) h g = ap (λ l. l ++ (digit (suc m % 10) ∷ [])) (digits-enough j k (suc m / 10) (omega arith) (omega arith))

digits-none : (k : ℕ) → digits k 0 ≡ []
unfolding digits
digits-none zero = refl
digits-none (suc k) = refl

digits-some : (k m : ℕ) → 0 < m → m ≤ k → digits k m ≡ decimal m
unfolding digits decimal
digits-some zero m h g = absurd (omega arith)
digits-some (suc k) zero h g = elim h [ ]
digits-some (suc k) (suc m) h g = ap (λ l. l ++ (digit (suc m % 10) ∷ [])) (digits-enough k (suc m) (suc m / 10) (omega arith) (omega arith))

pub decimal-small : {n : ℕ} → n < 10 → decimal n ≡ digit n ∷ []
unfolding decimal
decimal-small {n} h =
    let q : n / 10 ≡ 0 = omega arith in
    let r : n % 10 ≡ n = omega arith in
    rw (q, r, digits-none)

pub decimal-more : {n : ℕ} → 10 ≤ n → decimal n ≡ decimal (n / 10) ++ (digit (n % 10) ∷ [])
unfolding decimal
decimal-more {n} h = ap (λ l. l ++ (digit (n % 10) ∷ [])) (digits-some n (n / 10) (omega arith) (omega arith))

digits-length : (k n m : ℕ) → n < 10 ^ m → length (digits k n) ≤ m
unfolding digits
digits-length zero n m h = omega arith
digits-length (suc k) zero m h = omega arith
digits-length (suc k) (suc n) zero h = omega arith
digits-length (suc k) (suc n) (suc m) h =
    let s = digits-length k (suc n / 10) m (omega (arith, rw pow-suc at h)) in
    rw length-append (omega arith)

-- a number below 10 ^ (m + 1) has at most m + 1 digits
pub decimal-length : (m n : ℕ) → n < 10 ^ suc m → length (decimal n) ≤ suc m
unfolding decimal
decimal-length m n h =
    let s = digits-length n (n / 10) m (omega (arith, rw pow-suc at h)) in
    rw length-append (omega arith)

last-digit : (n : ℕ) → length (decimal n) ≡ length (digits n (n / 10)) + 1
unfolding decimal
last-digit n = length-append (digits n (n / 10)) (digit (n % 10) ∷ [])

pub shorter : (n : ℕ) → length (decimal (n / 10)) ≤ length (decimal n)
shorter n = elim (cases_lt n 10) [
  | inl small ↦ let none : n / 10 ≡ 0 = omega arith in rw none (omega (arith, last-digit n, ap length (decimal-small {n = 0} (lit≤ tt))))
  | inr more ↦ omega (arith, ap length (decimal-more more), length-append (decimal (n / 10)) (digit (n % 10) ∷ []))
]

-- one digit, written in front
pub alone : (buffer : List ℕ) (n : ℕ) → n < 10 → 0 < length buffer → take 1 (set buffer 0 (digit n)) ≡ decimal n
alone [] n h g = absurd (omega arith)
alone (x ∷ buffer) n h g = sym (decimal-small h)

-- what a number's digits are, by the size of the number
pub ruleset decimal_steps = (decimal-small, decimal-more, shorter, alone, length-append)
