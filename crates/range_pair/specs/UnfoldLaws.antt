-- A folded G taken apart again: each part of a bin comes out twice, and in rows 0 and 8 once.
use Rattle.std.specs.Prelude.{◌≡◌, ◌∷◌, ◌<◌, ◌+ℤ◌, ◌-ℤ◌, ◌*ℤ◌}
use Rattle.range_pair.specs.Prelude.{ap, ◌∙◌, [], ℕ, arith, ℤ, pos, neg_ℤ, lit<, var, ◌⊞◌, ◌⊟◌, ◌⊠◌, ⊖◌, #◌, ring, side16, Mirrored, real_of, imaginary_of, tile_re, tile_im, fold_re, fold_im, spread, counted, apart_of, beside_of, counted_of, fold_im_of, fold_re_of, imaginary_part, real_part, spread_of, tile_im_of, tile_re_of}
use Rattle.std.proofs.Common.{below_more}
use Rattle.algebra.specs.Order.{zarith, neg-p, neg-n}
use Rattle.recipe.specs.TableLaws.{opposite}

-- ---- by cases

none : (k : ℕ) → k < 0 → ⊥
none k h = omega arith

each9 : (P : ℕ → Type 0) → P 0 → P 1 → P 2 → P 3 → P 4 → P 5 → P 6 → P 7 → P 8 → (k : ℕ) → k < 9 → P k
each9 P p0 p1 p2 p3 p4 p5 p6 p7 p8 = below_more P 8 (below_more P 7 (below_more P 6 (below_more P 5 (below_more P 4 (below_more P 3 (below_more P 2 (below_more P 1 (below_more P 0 (λ k h. absurd (none k h)) p0) p1) p2) p3) p4) p5) p6) p7) p8

each16 : (P : ℕ → Type 0) → P 0 → P 1 → P 2 → P 3 → P 4 → P 5 → P 6 → P 7 → P 8 → P 9 → P 10 → P 11 → P 12 → P 13 → P 14 → P 15 → (k : ℕ) → k < 16 → P k
each16 P p0 p1 p2 p3 p4 p5 p6 p7 p8 p9 p10 p11 p12 p13 p14 p15 = below_more P 15 (below_more P 14 (below_more P 13 (below_more P 12 (below_more P 11 (below_more P 10 (below_more P 9 (below_more P 8 (below_more P 7 (below_more P 6 (below_more P 5 (below_more P 4 (below_more P 3 (below_more P 2 (below_more P 1 (below_more P 0 (λ k h. absurd (none k h)) p0) p1) p2) p3) p4) p5) p6) p7) p8) p9) p10) p11) p12) p13) p14) p15

-- ---- two numbers

minus-nothing : (a : ℤ) → a -ℤ pos 0 ≡ a
minus-nothing a = ring (a ∷ []) (var 0 ⊟ # 0) (var 0) tt

plus-nothing : (a : ℤ) → pos 0 +ℤ a ≡ a
plus-nothing a = ring (a ∷ []) (# 0 ⊞ var 0) (var 0) tt

low-re : (a b : ℤ) → (a +ℤ b) -ℤ (b -ℤ a) ≡ pos 2 *ℤ a
low-re a b = ring (a ∷ b ∷ []) ((var 0 ⊞ var 1) ⊟ (var 1 ⊟ var 0)) (# 2 ⊠ var 0) tt

high-re : (a b : ℤ) → (b +ℤ a) -ℤ neg_ℤ (a -ℤ b) ≡ pos 2 *ℤ a
high-re a b = ring (a ∷ b ∷ []) ((var 1 ⊞ var 0) ⊟ ⊖ (var 0 ⊟ var 1)) (# 2 ⊠ var 0) tt

low-im : (a b : ℤ) → (a -ℤ b) +ℤ (a +ℤ b) ≡ pos 2 *ℤ a
low-im a b = ring (a ∷ b ∷ []) ((var 0 ⊟ var 1) ⊞ (var 0 ⊞ var 1)) (# 2 ⊠ var 0) tt

high-im : (a b : ℤ) → neg_ℤ (b -ℤ a) +ℤ (b +ℤ a) ≡ pos 2 *ℤ a
high-im a b = ring (a ∷ b ∷ []) (⊖ (var 1 ⊟ var 0) ⊞ (var 1 ⊞ var 0)) (# 2 ⊠ var 0) tt

-- of a conjugate b
own-low-re : (a b : ℤ) → b ≡ a → (a +ℤ b) -ℤ pos 0 ≡ pos 2 *ℤ a
own-low-re a b e = ap (λ b. (a +ℤ b) -ℤ pos 0) e ∙ ring (a ∷ []) ((var 0 ⊞ var 0) ⊟ # 0) (# 2 ⊠ var 0) tt

own-high-re : (a b : ℤ) → b ≡ a → (b +ℤ a) -ℤ neg_ℤ (pos 0) ≡ pos 2 *ℤ a
own-high-re a b e = ap (λ b. (b +ℤ a) -ℤ neg_ℤ (pos 0)) e ∙ ring (a ∷ []) ((var 0 ⊞ var 0) ⊟ ⊖ # 0) (# 2 ⊠ var 0) tt

own-low-im : (a b : ℤ) → b ≡ neg_ℤ a → (a -ℤ b) +ℤ pos 0 ≡ pos 2 *ℤ a
own-low-im a b e = ap (λ b. (a -ℤ b) +ℤ pos 0) e ∙ ring (a ∷ []) ((var 0 ⊟ ⊖ var 0) ⊞ # 0) (# 2 ⊠ var 0) tt

own-high-im : (a b : ℤ) → b ≡ neg_ℤ a → neg_ℤ (b -ℤ a) +ℤ pos 0 ≡ pos 2 *ℤ a
own-high-im a b e = ap (λ b. neg_ℤ (b -ℤ a) +ℤ pos 0) e ∙ ring (a ∷ []) (⊖ (⊖ var 0 ⊟ var 0) ⊞ # 0) (# 2 ⊠ var 0) tt

-- its own opposite
nothing : (a : ℤ) → a ≡ neg_ℤ a → pos 0 +ℤ pos 0 ≡ a
nothing a e = omega (zarith, neg-p a, neg-n a)

-- ---- one column

module _ (g h : ℕ → ℤ) where
  column-re : (u : ℕ) → u < 16 → real_of (fold_re g h) u -ℤ imaginary_of (fold_im g h) u ≡ counted u (g u)
  unfolding real_part imaginary_part fold_re_of fold_im_of apart_of counted_of side16
  column-re =
      each16 (λ u. real_of (fold_re g h) u -ℤ imaginary_of (fold_im g h) u ≡ counted u (g u))
      (minus-nothing (g 0)) (low-re (g 1) (g 15)) (low-re (g 2) (g 14)) (low-re (g 3) (g 13))
      (low-re (g 4) (g 12)) (low-re (g 5) (g 11)) (low-re (g 6) (g 10)) (low-re (g 7) (g 9))
      (minus-nothing (g 8)) (high-re (g 9) (g 7)) (high-re (g 10) (g 6)) (high-re (g 11) (g 5))
      (high-re (g 12) (g 4)) (high-re (g 13) (g 3)) (high-re (g 14) (g 2)) (high-re (g 15) (g 1))

  column-im : (u : ℕ) → u < 16 → imaginary_of (fold_re g h) u +ℤ real_of (fold_im g h) u ≡ counted u (h u)
  unfolding real_part imaginary_part fold_re_of fold_im_of apart_of counted_of side16
  column-im =
      each16 (λ u. imaginary_of (fold_re g h) u +ℤ real_of (fold_im g h) u ≡ counted u (h u))
      (plus-nothing (h 0)) (low-im (h 1) (h 15)) (low-im (h 2) (h 14)) (low-im (h 3) (h 13))
      (low-im (h 4) (h 12)) (low-im (h 5) (h 11)) (low-im (h 6) (h 10)) (low-im (h 7) (h 9))
      (plus-nothing (h 8)) (high-im (h 9) (h 7)) (high-im (h 10) (h 6)) (high-im (h 11) (h 5))
      (high-im (h 12) (h 4)) (high-im (h 13) (h 3)) (high-im (h 14) (h 2)) (high-im (h 15) (h 1))

  -- one that is its own mirror image
  own-re : ((u : ℕ) → u < 16 → g (opposite u) ≡ g u) → (u : ℕ) → u < 16 → real_of (fold_re g h) u -ℤ imaginary_of (λ b. pos 0) u ≡ counted u (g u)
  unfolding real_part imaginary_part fold_re_of apart_of counted_of side16
  own-re m =
      each16 (λ u. real_of (fold_re g h) u -ℤ imaginary_of (λ b. pos 0) u ≡ counted u (g u))
      (minus-nothing (g 0)) (own-low-re (g 1) (g 15) (m 1 (lit< tt))) (own-low-re (g 2) (g 14) (m 2 (lit< tt))) (own-low-re (g 3) (g 13) (m 3 (lit< tt)))
      (own-low-re (g 4) (g 12) (m 4 (lit< tt))) (own-low-re (g 5) (g 11) (m 5 (lit< tt))) (own-low-re (g 6) (g 10) (m 6 (lit< tt))) (own-low-re (g 7) (g 9) (m 7 (lit< tt)))
      (minus-nothing (g 8)) (own-high-re (g 9) (g 7) (m 9 (lit< tt))) (own-high-re (g 10) (g 6) (m 10 (lit< tt))) (own-high-re (g 11) (g 5) (m 11 (lit< tt)))
      (own-high-re (g 12) (g 4) (m 12 (lit< tt))) (own-high-re (g 13) (g 3) (m 13 (lit< tt))) (own-high-re (g 14) (g 2) (m 14 (lit< tt))) (own-high-re (g 15) (g 1) (m 15 (lit< tt)))

  own-im : ((u : ℕ) → u < 16 → h (opposite u) ≡ neg_ℤ (h u)) → (u : ℕ) → u < 16 → imaginary_of (fold_re g h) u +ℤ real_of (λ b. pos 0) u ≡ counted u (h u)
  unfolding real_part imaginary_part fold_re_of apart_of counted_of side16
  own-im m =
      each16 (λ u. imaginary_of (fold_re g h) u +ℤ real_of (λ b. pos 0) u ≡ counted u (h u))
      (nothing (h 0) (m 0 (lit< tt))) (own-low-im (h 1) (h 15) (m 1 (lit< tt))) (own-low-im (h 2) (h 14) (m 2 (lit< tt))) (own-low-im (h 3) (h 13) (m 3 (lit< tt)))
      (own-low-im (h 4) (h 12) (m 4 (lit< tt))) (own-low-im (h 5) (h 11) (m 5 (lit< tt))) (own-low-im (h 6) (h 10) (m 6 (lit< tt))) (own-low-im (h 7) (h 9) (m 7 (lit< tt)))
      (nothing (h 8) (m 8 (lit< tt))) (own-high-im (h 9) (h 7) (m 9 (lit< tt))) (own-high-im (h 10) (h 6) (m 10 (lit< tt))) (own-high-im (h 11) (h 5) (m 11 (lit< tt)))
      (own-high-im (h 12) (h 4) (m 12 (lit< tt))) (own-high-im (h 13) (h 3) (m 13 (lit< tt))) (own-high-im (h 14) (h 2) (m 14 (lit< tt))) (own-high-im (h 15) (h 1) (m 15 (lit< tt)))

-- ---- all columns

module _ (g h : ℕ → ℕ → ℤ) (m : Mirrored g h) where
  pub part-re : (u v : ℕ) → u < 16 → v < 9 → tile_re (spread g h) u v ≡ counted u (g u v)
  unfolding tile_re_of spread_of beside_of apart_of side16
  part-re u v k l =
      each9 (λ v. tile_re (spread g h) u v ≡ counted u (g u v))
      (own-re (λ u. g u 0) (λ u. h u 0) (λ u j. m.re u 0 j (lit< tt)) u k) (column-re (λ u. g u 1) (λ u. h u 1) u k) (column-re (λ u. g u 2) (λ u. h u 2) u k)
      (column-re (λ u. g u 3) (λ u. h u 3) u k) (column-re (λ u. g u 4) (λ u. h u 4) u k) (column-re (λ u. g u 5) (λ u. h u 5) u k)
      (column-re (λ u. g u 6) (λ u. h u 6) u k) (column-re (λ u. g u 7) (λ u. h u 7) u k) (own-re (λ u. g u 8) (λ u. h u 8) (λ u j. m.re u 8 j (lit< tt)) u k)
      v l

  pub part-im : (u v : ℕ) → u < 16 → v < 9 → tile_im (spread g h) u v ≡ counted u (h u v)
  unfolding tile_im_of spread_of beside_of apart_of side16
  part-im u v k l =
      each9 (λ v. tile_im (spread g h) u v ≡ counted u (h u v))
      (own-im (λ u. g u 0) (λ u. h u 0) (λ u j. m.im u 0 j (lit< tt)) u k) (column-im (λ u. g u 1) (λ u. h u 1) u k) (column-im (λ u. g u 2) (λ u. h u 2) u k)
      (column-im (λ u. g u 3) (λ u. h u 3) u k) (column-im (λ u. g u 4) (λ u. h u 4) u k) (column-im (λ u. g u 5) (λ u. h u 5) u k)
      (column-im (λ u. g u 6) (λ u. h u 6) u k) (column-im (λ u. g u 7) (λ u. h u 7) u k) (own-im (λ u. g u 8) (λ u. h u 8) (λ u j. m.im u 8 j (lit< tt)) u k)
      v l
