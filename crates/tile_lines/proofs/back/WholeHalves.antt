-- The sums of a line's even and odd places, whatever the noise: whole numbers of at most 2^53 in double, and in 64 bits they make half of the sum back.
use Rattle.std.specs.Prelude.{◌≡◌, ◌+◌, ◌-◌, ◌*◌, ◌^◌, ◌≤◌, ◌<◌, ◌+ℤ◌, ◌-ℤ◌}
use Rattle.algebra.specs.Prelude.{refl, sym, ap, ap₂, ◌∙◌, Bool, true, false, cond, List, ℕ, arith, ltb, lit≤, get_or, ℤ, nat_abs, w64, SFits, to_z, of_z, to_z-of_z}
use native.Mathlib.Nat.{le_trans}
use borrow.Author.Tests.{ltb-true, ltb-false}
use Rattle.tile_lines.specs.Back.Prelude.{Float, nan, binary64, of_int, to_signed, side16, half_sum, odd_sum, even_half, double_line, WholeDouble, joined_by, column_most}
use Rattle.algebra.specs.Bound.{add-fits, sub-fits}
use Rattle.sequences.specs.TabLaws.{get_d-tab}
use Rattle.recipe.specs.TableLaws.{rules16}
use Rattle.tile_spectrum.specs.Lines.SideSums.{Halves, half-halves}
use Rattle.tile_spectrum.specs.Lines.BackSizes.{even-half-most, odd-sum-most}
use Rattle.tile_spectrum.specs.Lines.DoubleCasts.{whole_is, whole-most}
use Rattle.tile_spectrum.specs.Lines.Held.{number_is, number-most}

-- ---- two of them in 64 bits

abbrev pub whole_plus : Float → Float → ℤ
whole_plus a b = to_signed 63 a +ℤ to_signed 63 b

abbrev pub whole_minus : Float → Float → ℤ
whole_minus a b = to_signed 63 a -ℤ to_signed 63 b

module _ {a b : Float} (v : WholeDouble (2 ^ 53) a) (w : WholeDouble (2 ^ 53) b) where
  abbrev held : Float → ℤ
  held x = to_z w64 (of_z w64 (to_signed 63 x))

  pub sum_fits : SFits w64 (held a +ℤ held b)
  sum_fits = add-fits w64 _ _ _ _ (number-most w64 (whole-most v) tt) (number-most w64 (whole-most w) tt) tt

  pub sum_is : to_z w64 (of_z w64 (held a +ℤ held b)) ≡ whole_plus a b
  sum_is = to_z-of_z sum_fits ∙ ap₂ ◌+ℤ◌ (number_is w64 (whole-most v) tt) (number_is w64 (whole-most w) tt)

  pub difference-fits : SFits w64 (held a -ℤ held b)
  difference-fits = sub-fits w64 _ _ _ _ (number-most w64 (whole-most v) tt) (number-most w64 (whole-most w) tt) tt

  pub difference-is : to_z w64 (of_z w64 (held a -ℤ held b)) ≡ whole_minus a b
  difference-is = to_z-of_z difference-fits ∙ ap₂ ◌-ℤ◌ (number_is w64 (whole-most v) tt) (number_is w64 (whole-most w) tt)

-- ---- of a line

abbrev eight_whole : {x : List Float} (f : ℕ → ℤ) → x ≡ double_line 8 f → ((n : ℕ) → nat_abs (f n) ≤ 2 ^ 53) → (n : ℕ) → n < 8 → WholeDouble (2 ^ 53) (get_or x n nan)
eight_whole f e most n h = record { number = f n; most = most n; is = ap (λ x. get_or x n nan) e ∙ get_d-tab (λ i. of_int binary64 (f i)) nan 8 n h }

module _ (z : ℕ → ℤ) (most : (k : ℕ) → nat_abs (z k) ≤ column_most false) {x : List Float} where
  abbrev pub even_whole : x ≡ double_line 8 (even_half z) → (n : ℕ) → n < 8 → WholeDouble (2 ^ 53) (get_or x n nan)
  even_whole e = eight_whole (even_half z) e (λ n. le_trans (even-half-most z most n) (lit≤ tt))

  abbrev pub odd_whole : x ≡ double_line 8 (odd_sum z) → (n : ℕ) → n < 8 → WholeDouble (2 ^ 53) (get_or x n nan)
  odd_whole e = eight_whole (odd_sum z) e (λ n. le_trans (odd-sum-most z most n) (lit≤ tt))

-- number n of the line f, from its parts
joined : {f e o : ℕ → ℤ} → Halves 8 f e o → (s t : List Float) → ((n : ℕ) → n < 8 → to_signed 63 (get_or s n nan) ≡ e n) → ((n : ℕ) → n < 8 → to_signed 63 (get_or t n nan) ≡ o n) → (n : ℕ) → n < 16 → joined_by whole_plus whole_minus s t n ≡ f n
joined {f} {e} {o} h s t p q n l = go (ltb n 8) (ltb-true n 8) (ltb-false n 8)
  where
    go : (b : Bool) → (b ≡ true → n < 8) → (b ≡ false → 8 ≤ n) → cond b (whole_plus (get_or s n nan) (get_or t n nan)) (whole_minus (get_or s (n - 8) nan) (get_or t (n - 8) nan)) ≡ f n
    go true k g = ap₂ ◌+ℤ◌ (p n (k refl)) (q n (k refl)) ∙ sym (h.low n)
    go false k g =
        let m : n - 8 < 8 = omega arith in
        let back : n - 8 + 8 ≡ n = omega (arith, g refl) in
        ap₂ ◌-ℤ◌ (p (n - 8) m) (q (n - 8) m) ∙ sym (h.high (n - 8)) ∙ ap f back

module _ (z : ℕ → ℤ) (most : (k : ℕ) → nat_abs (z k) ≤ column_most false) {s t : List Float} where
  pub whole-half-at : s ≡ double_line 8 (even_half (λ k. z (2 * k))) → t ≡ double_line 8 (odd_sum (λ k. z (2 * k + 1))) → (n : ℕ) → n < 16 → joined_by whole_plus whole_minus s t n ≡ half_sum z n
  unfolding side16
  whole-half-at p q =
      joined (half-halves rules16 z) s t
      (λ n l. whole_is (even_whole (λ k. z (2 * k)) (λ k. most (2 * k)) p n l)) (λ n l. whole_is (odd_whole (λ k. z (2 * k + 1)) (λ k. most (2 * k + 1)) q n l))
