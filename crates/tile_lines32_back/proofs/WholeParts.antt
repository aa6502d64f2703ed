-- The sums of two rows of thirty-two places whatever the noise: four parts of a row's sum are whole numbers of at most 2^53 in double, and in 64 bits they make
-- half of the sum back.
use mathlib.Core.Path.{fun_ext}
use Rattle.std.specs.Prelude.{◌≡◌, ◌+◌, ◌*◌, ◌/◌, ◌%◌, ◌^◌, ◌≤◌, ◌<◌, ◌+ℤ◌, ◌-ℤ◌}
use Rattle.tile_lines32_back.specs.Prelude.{sym, ap, ap₂, subst, ◌∙◌, false, List, ℕ, arith, lit≤, get_or, ℤ, pos, nat_abs, Float, nan, tab, side32, basis_of, half_sum_of, odd_sum_of, column_most, long_column_most, double_line, WholeDouble, WholeRow}
use native.Mathlib.Nat.{le_trans}
use Rattle.sequences.specs.TabLaws.{get_d-tab}
use Rattle.recipe.specs.Tables.{side16}
use Rattle.tile_spectrum.specs.Lines.BackSizes.{half-sum-most, weighed}
use Rattle.tile_spectrum.specs.Lines.Lines.{LineMost}
use Rattle.tile_spectrum.specs.Lines.Tiles.{line-most}
use Rattle.tile_lines32_back.specs.Parts.{cosine_part, sine_part, InParts}
use Rattle.tile_lines32_back.proofs.BothHalves.{number, long-half}
use Rattle.tile_lines32_back.proofs.PartSums.{part_sum, odd-sum, cosine-most, sine-most}

-- ---- the parts of a row's odd places

module _ {a b c d : List Float} (w : InParts (long_column_most false false) a b c d) (i : ℕ) (h : i < 4) where
  abbrev pub even_cosine : WholeDouble (2 ^ 53) (get_or a i nan)
  even_cosine = record { number = cosine_part w.number (2 * i); most = le_trans (cosine-most w.number w.most (2 * i)) (lit≤ tt); is = number 4 _ w.even_cosines i h }

  abbrev pub odd_cosine : WholeDouble (2 ^ 53) (get_or b i nan)
  odd_cosine = record { number = cosine_part w.number (2 * i + 1); most = le_trans (cosine-most w.number w.most (2 * i + 1)) (lit≤ tt); is = number 4 _ w.odd_cosines i h }

  abbrev pub even_sine : WholeDouble (2 ^ 53) (get_or c i nan)
  even_sine = record { number = sine_part w.number (2 * i + 2); most = le_trans (sine-most w.number w.most (2 * i + 2)) (lit≤ tt); is = number 4 _ w.even_sines i h }

  abbrev pub odd_sine : WholeDouble (2 ^ 53) (get_or d i nan)
  odd_sine = record { number = sine_part w.number (2 * i + 1); most = le_trans (sine-most w.number w.most (2 * i + 1)) (lit≤ tt); is = number 4 _ w.odd_sines i h }

-- ---- their sums

pub whole-number : (n : ℕ) {x : List ℤ} (z : ℕ → ℤ) → x ≡ tab n z → (i : ℕ) → i < n → get_or x i (pos 0) ≡ z i
whole-number n z e i h = ap (λ x. get_or x i (pos 0)) e ∙ get_d-tab z (pos 0) n i h

odd-most : (z : ℕ → ℤ) → ((k : ℕ) → nat_abs (z k) ≤ long_column_most false false) → (n : ℕ) → nat_abs (odd_sum_of side32 z n) ≤ 2 ^ 54
unfolding odd_sum_of side32
odd-most z most n = le_trans (weighed z most 16 (λ k. basis_of side32 (2 * k + 1) n) (2 * part_sum) (odd-sum n)) (lit≤ tt)

pub odd-line-most : (z : ℕ → ℤ) → ((k : ℕ) → nat_abs (z k) ≤ long_column_most false false) → {t : List ℤ} → t ≡ tab 16 (odd_sum_of side32 z) → LineMost (2 ^ 54) t
odd-line-most z most e = subst (LineMost (2 ^ 54)) (sym e) (line-most (2 ^ 54) _ (odd-most z most) 16)

-- ---- two rows: places of row p are those of f at 2k + p

module _ (f : ℕ → ℤ) (most : (k : ℕ) → nat_abs (f k) ≤ long_column_most false false) where
  -- the even places as a row of sixteen
  abbrev pub evens_row : {e : List Float} → e ≡ double_line 32 (λ l. f (4 * (l / 2) + l % 2)) → WholeRow (column_most false) e
  evens_row e = record { number = λ l. f (4 * (l / 2) + l % 2); most = λ l. omega (arith, most (4 * (l / 2) + l % 2)); is = e }

  abbrev even_sums : ℕ → ℤ
  even_sums l = half_sum_of side16 (λ k. f (4 * ((2 * k + l % 2) / 2) + (2 * k + l % 2) % 2)) (l / 2)

  abbrev odd_sums : ℕ → ℤ
  odd_sums l = odd_sum_of side32 (λ k. f (4 * k + 2 + l % 2)) (l / 2)

  module _ {s t : List ℤ} (p : s ≡ tab 32 even_sums) (q : t ≡ tab 32 odd_sums) where
    pub even-sums-most : LineMost (2 ^ 54) s
    even-sums-most =
        subst (LineMost (2 ^ 54)) (sym p)
        (line-most (2 ^ 54) _ (λ l. le_trans (half-sum-most (λ k. f (4 * ((2 * k + l % 2) / 2) + (2 * k + l % 2) % 2)) (λ k. most (4 * ((2 * k + l % 2) / 2) + (2 * k + l % 2) % 2)) (l / 2)) (lit≤ tt)) 32)

    pub odd-sums-most : LineMost (2 ^ 54) t
    odd-sums-most = subst (LineMost (2 ^ 54)) (sym q) (line-most (2 ^ 54) _ (λ l. odd-most (λ k. f (4 * k + 2 + l % 2)) (λ k. most (4 * k + 2 + l % 2)) (l / 2)) 32)

    -- a row's halves from both
    module _ (l : ℕ) (h : l < 32) where
      abbrev line : ℕ → ℤ
      line k = f (2 * k + l % 2)

      even_is : get_or s l (pos 0) ≡ half_sum_of side16 (λ k. line (2 * k)) (l / 2)
      even_is =
          ap (λ s. get_or s l (pos 0)) p ∙ get_d-tab even_sums (pos 0) 32 l h
          ∙ ap (λ (g : ℕ → ℤ). half_sum_of side16 g (l / 2)) (fun_ext (λ k. ap f (omega arith)))

      odd_is : get_or t l (pos 0) ≡ odd_sum_of side32 (λ k. line (2 * k + 1)) (l / 2)
      odd_is =
          ap (λ t. get_or t l (pos 0)) q ∙ get_d-tab odd_sums (pos 0) 32 l h
          ∙ ap (λ (g : ℕ → ℤ). odd_sum_of side32 g (l / 2)) (fun_ext (λ k. ap f (omega arith)))

      pub whole-low : get_or s l (pos 0) +ℤ get_or t l (pos 0) ≡ half_sum_of side32 (λ k. f (2 * k + l % 2)) (l / 2)
      whole-low = ap₂ ◌+ℤ◌ even_is odd_is ∙ sym ((long-half line).low (l / 2))

      pub whole-high : get_or s l (pos 0) -ℤ get_or t l (pos 0) ≡ half_sum_of side32 (λ k. f (2 * k + (l + 32) % 2)) ((l + 32) / 2)
      whole-high =
          let a : (l + 32) % 2 ≡ l % 2 = omega arith in
          let b : (l + 32) / 2 ≡ l / 2 + 16 = omega arith in
          ap₂ ◌-ℤ◌ even_is odd_is ∙ sym (ap₂ (λ p n. half_sum_of side32 (λ k. f (2 * k + p)) n) a b ∙ (long-half line).high (l / 2))
