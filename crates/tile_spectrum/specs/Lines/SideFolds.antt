-- The folds of a line in halves, for any side whose cosines keep the rules: each even place of the transform is that of the line of sums, each odd place
-- that of the line of differences.
use Rattle.std.specs.Prelude.{◌≡◌, ◌∷◌, ◌+◌, ◌-◌, ◌*◌, ◌/◌, ◌≤◌, ◌<◌, ◌+ℤ◌, ◌-ℤ◌, ◌*ℤ◌}
use Rattle.tile_spectrum.specs.Lines.Prelude.{refl, sym, ap, ◌∙◌, Bool, true, false, not, cond, [], ℕ, zero, suc, T, ltb, arith, ℤ, neg_ℤ, ltb→lt, nltb→le, var, ◌⊞◌, ◌⊟◌, ◌⊠◌, ⊖◌, ring, sum_z, Side, cos_at, Rules, Doubled}
use Rattle.std.proofs.Common.{mul-add, add-mul, mul_assoc, zero-mul, suc-mul}
use Rattle.std.proofs.Math.IntN.{neg_ℤ-neg_ℤ}
use Rattle.algebra.specs.Laws.{*ℤ-distr}
use Rattle.algebra.specs.SumLaws.{sum_z-cong, sum_z-add, sum_z-parts}
use Rattle.tile_spectrum.specs.Lines.Halfcomplex.{frequency_of, phase_of, basis_of, halfcomplex_of}
use Rattle.tile_spectrum.specs.Lines.Fold.{sum_of, difference_of, folded_of}

-- twice q off twice i, and off the next number
cut-even : (h q i : ℕ) → h ≡ 2 * q → 2 * i - h ≡ (i - q) + (i - q)
cut-even h q i e = omega (arith, e)

cut-odd : (h q i : ℕ) → h ≡ 2 * q → h + 1 ≤ 2 * i + 1 → 2 * i + 1 - h ≡ (i - q) + (i - q) + 1
cut-odd h q i e l = omega (arith, e, l)

module _ {s : Side} (r : Rules s) where
  -- 2·m half turns leave a cosine as it is
  turns : (m j : ℕ) → cos_at s (j + (m * s.half + m * s.half)) ≡ cos_at s j
  turns zero j = ap (cos_at s) (omega (arith, zero-mul s.half))
  turns (suc m) j =
      ap (cos_at s) (omega (arith, suc-mul m s.half))
      ∙ r.half_turn (j + (m * s.half + m * s.half) + s.half)
      ∙ ap neg_ℤ (r.half_turn (j + (m * s.half + m * s.half)))
      ∙ neg_ℤ-neg_ℤ (cos_at s (j + (m * s.half + m * s.half)))
      ∙ turns m j

  -- half a line further on, at an even number f = 2·m and at an odd one
  turned-even : (f m p n : ℕ) → f ≡ m + m → cos_at s (f * (n + s.half) + p) ≡ cos_at s (f * n + p)
  turned-even f m p n e =
      ap (cos_at s) (omega (arith, mul-add f n s.half, ap (λ g. g * s.half) e, add-mul m m s.half))
      ∙ turns m (f * n + p)

  turned-odd : (f m p n : ℕ) → f ≡ m + m + 1 → cos_at s (f * (n + s.half) + p) ≡ neg_ℤ (cos_at s (f * n + p))
  turned-odd f m p n e =
      ap (cos_at s) (omega (arith, mul-add f n s.half, ap (λ g. g * s.half) e, add-mul (m + m) 1 s.half, add-mul m m s.half))
      ∙ r.half_turn (f * n + p + (m * s.half + m * s.half))
      ∙ ap neg_ℤ (turns m (f * n + p))

  -- half of the number that place k = 2·i or 2·i + 1 holds a part of, rounded down
  abbrev half_of : (k i : ℕ) → ℕ
  half_of k i = cond (ltb k (s.half + 1)) i (i - s.side / 4)

  -- an even place holds a part of an even number, an odd place of an odd one
  frequency-even : (i : ℕ) → frequency_of s (2 * i) ≡ half_of (2 * i) i + half_of (2 * i) i
  unfolding frequency_of
  frequency-even i = go (ltb (2 * i) (s.half + 1))
    where
      go : (b : Bool) → cond b (2 * i) (2 * i - s.half) ≡ cond b i (i - s.side / 4) + cond b i (i - s.side / 4)
      go true = omega arith
      go false = cut-even s.half (s.side / 4) i r.quarters

  frequency-odd : (i : ℕ) → frequency_of s (2 * i + 1) ≡ half_of (2 * i + 1) i + half_of (2 * i + 1) i + 1
  unfolding frequency_of
  frequency-odd i = go (ltb (2 * i + 1) (s.half + 1)) (nltb→le (2 * i + 1) (s.half + 1))
    where
      go : (b : Bool) → (T (not b) → s.half + 1 ≤ 2 * i + 1) → cond b (2 * i + 1) (2 * i + 1 - s.half) ≡ cond b i (i - s.side / 4) + cond b i (i - s.side / 4) + 1
      go true h = omega arith
      go false h = cut-odd s.half (s.side / 4) i r.quarters (h tt)

  -- half a line further on, the basis of an even place is the same, and that of an odd place is its negative
  pub basis-even : (i n : ℕ) → basis_of s (2 * i) (n + s.half) ≡ basis_of s (2 * i) n
  unfolding basis_of
  basis-even i n =
      turned-even (frequency_of s (2 * i)) (half_of (2 * i) i) (phase_of s (2 * i)) n (frequency-even i)

  pub basis-odd : (i n : ℕ) → basis_of s (2 * i + 1) (n + s.half) ≡ neg_ℤ (basis_of s (2 * i + 1) n)
  unfolding basis_of
  basis-odd i n =
      turned-odd (frequency_of s (2 * i + 1)) (half_of (2 * i + 1) i) (phase_of s (2 * i + 1)) n (frequency-odd i)

  halved : (x : ℕ → ℤ) (k : ℕ) → halfcomplex_of s x k ≡ sum_z s.half (λ n. x n *ℤ basis_of s k n +ℤ x (n + s.half) *ℤ basis_of s k (n + s.half))
  unfolding halfcomplex_of
  halved x k =
      ap (λ m. sum_z m (λ n. x n *ℤ basis_of s k n)) (twice s.half r.whole)
      ∙ sum_z-parts s.half s.half (λ n. x n *ℤ basis_of s k n)
      ∙ sym (sum_z-add s.half (λ n. x n *ℤ basis_of s k n) (λ n. x (n + s.half) *ℤ basis_of s k (n + s.half)))
    where
      twice : (h : ℕ) → s.side ≡ 2 * h → s.side ≡ h + h
      twice h e = omega (arith, e)

  -- so each place of the transform is that of the folded line
  module _ (x : ℕ → ℤ) (i : ℕ) where
    pub even-folded : folded_of s (sum_of s x) (2 * i) ≡ halfcomplex_of s x (2 * i)
    unfolding folded_of sum_of
    even-folded =
        sum_z-cong s.half (λ n. (x n +ℤ x (n + s.half)) *ℤ basis_of s (2 * i) n) (λ n. x n *ℤ basis_of s (2 * i) n +ℤ x (n + s.half) *ℤ basis_of s (2 * i) (n + s.half))
        (λ n l. *ℤ-distr (x n) (x (n + s.half)) (basis_of s (2 * i) n) ∙ ap (λ c. x n *ℤ basis_of s (2 * i) n +ℤ x (n + s.half) *ℤ c) (sym (basis-even i n)))
        ∙ sym (halved x (2 * i))

    pub odd-folded : folded_of s (difference_of s x) (2 * i + 1) ≡ halfcomplex_of s x (2 * i + 1)
    unfolding folded_of difference_of
    odd-folded =
        sum_z-cong s.half (λ n. (x n -ℤ x (n + s.half)) *ℤ basis_of s (2 * i + 1) n) (λ n. x n *ℤ basis_of s (2 * i + 1) n +ℤ x (n + s.half) *ℤ basis_of s (2 * i + 1) (n + s.half))
        (λ n l. ring (x n ∷ x (n + s.half) ∷ basis_of s (2 * i + 1) n ∷ []) ((var 0 ⊟ var 1) ⊠ var 2) (var 0 ⊠ var 2 ⊞ var 1 ⊠ ⊖ var 2) tt ∙ ap (λ c. x n *ℤ basis_of s (2 * i + 1) n +ℤ x (n + s.half) *ℤ c) (sym (basis-odd i n)))
        ∙ sym (halved x (2 * i + 1))

-- a line of twice the numbers: its even places are the places of the shorter line, of the sums
module _ {s t : Side} (r : Rules s) (q : Rules t) (d : Doubled s t) where
  doubled : (f g a b n : ℕ) → f ≡ 2 * g → a ≡ 2 * b → cos_at s (f * n + a) ≡ cos_at t (g * n + b)
  doubled f g a b n e h = ap (cos_at s) (omega (arith, ap (λ m. m * n) e, mul_assoc 2 g n, h)) ∙ d.evens (g * n + b)

  half-doubled : s.half ≡ 2 * t.half
  half-doubled = d.line ∙ q.whole

  quarter-doubled : s.side / 4 ≡ 2 * (t.side / 4)
  quarter-doubled = go (s.side / 4) (t.side / 4) r.quarters q.quarters half-doubled
    where
      go : (a b : ℕ) → s.half ≡ 2 * a → t.half ≡ 2 * b → s.half ≡ 2 * t.half → a ≡ 2 * b
      go a b e f h = omega (arith, e, f, h)

  pub basis-doubled : (k n : ℕ) → basis_of s (2 * k) n ≡ basis_of t k n
  unfolding basis_of frequency_of phase_of
  basis-doubled k n =
      go (ltb (2 * k) (s.half + 1)) (ltb k (t.half + 1)) (ltb→lt (2 * k) (s.half + 1)) (nltb→le (2 * k) (s.half + 1)) (ltb→lt k (t.half + 1)) (nltb→le k (t.half + 1))
    where
      go : (a b : Bool) → (T a → 2 * k < s.half + 1) → (T (not a) → s.half + 1 ≤ 2 * k) → (T b → k < t.half + 1) → (T (not b) → t.half + 1 ≤ k) → cos_at s (cond a (2 * k) (2 * k - s.half) * n + cond a 0 (s.side / 4)) ≡ cos_at t (cond b k (k - t.half) * n + cond b 0 (t.side / 4))
      go true true x y z w = doubled (2 * k) k 0 0 n refl refl
      go true false x y z w = absurd (omega (arith, x tt, w tt, half-doubled))
      go false true x y z w = absurd (omega (arith, y tt, z tt, half-doubled))
      go false false x y z w = doubled (2 * k - s.half) (k - t.half) (s.side / 4) (t.side / 4) n (omega (arith, half-doubled)) quarter-doubled

  pub even-doubled : (x : ℕ → ℤ) (k : ℕ) → halfcomplex_of t (sum_of s x) k ≡ halfcomplex_of s x (2 * k)
  unfolding folded_of halfcomplex_of
  even-doubled x k =
      ap (λ m. sum_z m (λ n. sum_of s x n *ℤ basis_of t k n)) (sym d.line)
      ∙ sum_z-cong s.half (λ n. sum_of s x n *ℤ basis_of t k n) (λ n. sum_of s x n *ℤ basis_of s (2 * k) n) (λ n l. ap (λ c. sum_of s x n *ℤ c) (sym (basis-doubled k n)))
      ∙ even-folded r x k

-- the line's numbers alone count, and the folded line's
module _ (s : Side) (f g : ℕ → ℤ) where
  pub line-ext : ((n : ℕ) → n < s.side → f n ≡ g n) → (k : ℕ) → halfcomplex_of s f k ≡ halfcomplex_of s g k
  unfolding halfcomplex_of
  line-ext h k = sum_z-cong s.side _ _ (λ n l. ap (λ z. z *ℤ basis_of s k n) (h n l))

  pub folds-ext : ((n : ℕ) → n < s.half → f n ≡ g n) → (k : ℕ) → folded_of s f k ≡ folded_of s g k
  unfolding folded_of
  folds-ext h k = sum_z-cong s.half _ _ (λ n l. ap (λ z. z *ℤ basis_of s k n) (h n l))
