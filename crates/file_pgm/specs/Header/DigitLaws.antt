-- The decimals of numbers below 10000: how many digits they have, and the number that they are read as.
use Rattle.std.specs.Prelude.{◌≡◌, ◌∷◌, ◌++◌, ◌+◌, ◌-◌, ◌*◌, ◌/◌, ◌%◌, ◌≤◌, ◌<◌}
use Rattle.algebra.specs.Prelude.{refl, ap, ◌∙◌, List, [], ℕ, zero, suc, arith}
use Rattle.std.proofs.Math.Decide.{dec_lt}
use Rattle.std.proofs.Common.{le-leb}
use Rattle.std.proofs.lemmas.Bool.{lt-leb}
use Rattle.printing.specs.Decimal.{digit, decimal}
use Rattle.printing.specs.DecimalLaws.{decimal-small, decimal-more}
use Rattle.file_pgm.specs.Header.Header.{leading}

pub two : (n : ℕ) → 10 ≤ n → n < 100 → decimal n ≡ digit (n / 10) ∷ digit (n % 10) ∷ []
two n h g = decimal-more h ∙ ap (λ l. l ++ (digit (n % 10) ∷ [])) (decimal-small (omega arith))

pub three : (n : ℕ) → 100 ≤ n → n < 1000 → decimal n ≡ digit (n / 10 / 10) ∷ digit (n / 10 % 10) ∷ digit (n % 10) ∷ []
three n h g = decimal-more (omega arith) ∙ ap (λ l. l ++ (digit (n % 10) ∷ [])) (two (n / 10) (omega arith) (omega arith))

pub four : (n : ℕ) → 1000 ≤ n → n < 10000 → decimal n ≡ digit (n / 10 / 10 / 10) ∷ digit (n / 10 / 10 % 10) ∷ digit (n / 10 % 10) ∷ digit (n % 10) ∷ []
four n h g = decimal-more (omega arith) ∙ ap (λ l. l ++ (digit (n % 10) ∷ [])) (three (n / 10) (omega arith) (omega arith))

-- a digit in front
takes : (most value d : ℕ) (s : List ℕ) → d < 10 → leading (suc most) value (digit d ∷ s) ≡ leading most (value * 10 + d) s
unfolding leading
takes most value d s h =
    let same : digit d - 48 ≡ d = omega arith in
    rw (le-leb 48 (digit d) (omega arith), le-leb (digit d) 57 (omega arith), same)

-- a byte in front that is no digit
stops : (most value b : ℕ) (s : List ℕ) → b < 48 → leading most value (b ∷ s) ≡ value
unfolding leading
stops zero value b s h = refl
stops (suc most) value b s h = rw (lt-leb 48 b h)

-- a number of two to four digits is read as what it is, where no digit follows
pub leading-decimal : (n b : ℕ) (s : List ℕ) → 10 ≤ n → n < 10000 → b < 48 → leading 4 0 (decimal n ++ (b ∷ s)) ≡ n
leading-decimal n b s h g l = by_length (dec_lt n 100) (dec_lt n 1000)
  where
    by_length : Dec (n < 100) → Dec (n < 1000) → leading 4 0 (decimal n ++ (b ∷ s)) ≡ n
    by_length (yes p) k =
        rw (two n h p)
        (takes 3 0 (n / 10) _ (omega arith) ∙ takes 2 _ (n % 10) _ (omega arith) ∙ stops 2 _ b s l ∙ omega arith)
    by_length (no p) (yes q) =
        rw (three n (omega arith) q)
        (takes 3 0 (n / 10 / 10) _ (omega arith) ∙ takes 2 _ (n / 10 % 10) _ (omega arith) ∙ takes 1 _ (n % 10) _ (omega arith) ∙ stops 1 _ b s l ∙ omega arith)
    by_length (no p) (no q) =
        rw (four n (omega arith) g)
        (takes 3 0 (n / 10 / 10 / 10) _ (omega arith)
        ∙ takes 2 _ (n / 10 / 10 % 10) _ (omega arith)
        ∙ takes 1 _ (n / 10 % 10) _ (omega arith)
        ∙ takes 0 _ (n % 10) _ (omega arith)
        ∙ stops 0 _ b s l
        ∙ omega arith)
