-- The filtered sample is close to the exact filtered merge's, for any side whose tables and scales fit together.
use Rattle.std.specs.Prelude.{◌≡◌, ◌∷◌, ◌+◌, ◌*◌, ◌/◌, ◌%◌, ◌≤◌, ◌<◌, ◌+ℤ◌, ◌-ℤ◌, ◌*ℤ◌, ◌≤ℤ◌}
use Rattle.closeness.specs.Spatial.Prelude.{sym, ◌∙◌, ap, ap₂, subst, [], ℕ, suc, arith, lit<, ℤ, pos, nat_abs, subst₂, vars4, vars8, var, ◌⊞◌, ◌⊟◌, ◌⊠◌, #◌, ring, 0≤pos, Frac, whole, Within, sq, Side, bin_re, bin_im, inverse_re, inverse_at, exact_wiener, exact_inverse_at, FilteredTile, merged_sum, copy_at, copy_quantized, copy_filtered, spatial_at, taken_at, filtered_sample, exact_bin_re, exact_bin_im, exact_sum, exact_merged_at, exact_spatial_at, exact_taken_at, exact_filtered_sample}
use Rattle.std.proofs.Math.Nat.{mul-pos}
use Rattle.std.proofs.Common.{mul-le-mul_left, mul-le-mul_right}
use Rattle.algebra.specs.Cert.{num, nn, le, sqr, ◌⊕◌, ◌⊗◌, by_le, by-le-times, le-pos}
use Rattle.algebra.specs.NearestLaws.{away-rounds}
use Rattle.algebra.specs.FractionLaws.{Near, near_add, near-scale, near-sums, near-mono, near-over, near-rounds}
use Rattle.algebra.specs.Same.{pos-above}
use Rattle.recipe.specs.Output.{row_in, column_in, weight_in}
use Rattle.closeness.specs.Closeness.{Fitting, tile_error, tile-near, rounded-within}
use Rattle.algebra.specs.Numerators.{ClearsBoth, tile-common, tiles-common, numerator, numerator-is, restored}
use Rattle.closeness.specs.Spatial.Lengths.{tile_sum, tile-mono, tile-add, tile-scale, tile-const, Length, moduli, length_at}
use Rattle.closeness.specs.Spatial.Linear.{mixed, inverse-linear, bin-re-linear, bin-im-linear}
use Rattle.closeness.specs.Spatial.Bessel.{Gain, back-length, forth-length}
use Rattle.closeness.specs.Spatial.Transforms.{inverse-same, bin-re-same, bin-im-same}
use Rattle.closeness.specs.Spatial.Wiener.{bin-step}
use Rattle.closeness.specs.Spatial.Merged.{exact_re, exact_im, whole_merged, copy_error, merged-same, copy-length}

-- the copy's bins are off by at most spread/8 sixteenths, as a length, and the bins of the correction by at most `far`
pub record Figures (s : Side) (gain spread far others : ℕ) : Type 0 where
  pub gain_above : 0 < gain
  pub halves : s.half + s.half ≡ s.side
  pub spread_enough : gain * (s.side * (4 * (s.divisor * suc others) + others * (4 * s.divisor + 17 * gain))) ≤ spread * (s.divisor * suc others * (256 * s.quantum))
  pub far_enough : 768 * (s.side * s.side) + 3 * (spread * spread) ≤ 128 * (far * far)

-- P' is within spatial_error/(2·divisor) of 256·p'
abbrev pub spatial_error : Side → (gain far : ℕ) → ℕ
spatial_error s gain far = 2 * (gain * far) + s.divisor

-- ---- one tile

-- the sum of the steps of the bins, q against r
step_sum : (n C k : ℕ) (q r : ℕ → ℕ → ℤ) → ((u v : ℕ) → u < n → v < n → (pos 2 *ℤ (pos k *ℤ pos k) *ℤ q u v) ≤ℤ (pos C *ℤ pos C *ℤ (pos 12 *ℤ (pos k *ℤ pos k) +ℤ pos 3 *ℤ r u v))) →
    (pos (2 * (k * k)) *ℤ tile_sum n q) ≤ℤ (pos (n * n) *ℤ pos (12 * (C * C * (k * k))) +ℤ pos (3 * (C * C)) *ℤ tile_sum n r)
step_sum n C k q r h =
    subst₂ ◌≤ℤ◌ (tile-scale n (pos (2 * (k * k))) q)
    (tile-add n (λ u v. pos (12 * (C * C * (k * k)))) (λ u v. pos (3 * (C * C)) *ℤ r u v) ∙ ap₂ ◌+ℤ◌ (tile-const n (pos (12 * (C * C * (k * k))))) (tile-scale n (pos (3 * (C * C))) r))
    (tile-mono n (λ u v. pos (2 * (k * k)) *ℤ q u v) (λ u v. pos (12 * (C * C * (k * k))) +ℤ pos (3 * (C * C)) *ℤ r u v)
    (λ u v i j. let (D, K, Q, R) = vars4 in
    by_le (pos C ∷ pos k ∷ q u v ∷ r u v ∷ []) (# 2 ⊠ (K ⊠ K) ⊠ Q) (# 12 ⊠ (D ⊠ D ⊠ (K ⊠ K)) ⊞ # 3 ⊠ (D ⊠ D) ⊠ R) (le (# 2 ⊠ (K ⊠ K) ⊠ Q) (D ⊠ D ⊠ (# 12 ⊠ (K ⊠ K) ⊞ # 3 ⊠ R)) (h u v i j)) tt))

step-length : (n C k e spread far : ℕ) (q r : ℕ → ℕ → ℤ) → 0 < k → (pos (2 * (k * k)) *ℤ tile_sum n q) ≤ℤ (pos (n * n) *ℤ pos (12 * (C * C * (k * k))) +ℤ pos (3 * (C * C)) *ℤ tile_sum n r) →
    Length n e 8 r → e ≤ spread * k → 768 * (n * n) + 3 * (spread * spread) ≤ 128 * (far * far) → Length n (far * C) 1 q
step-length n C k e spread far q r l h g small enough =
    let (N, D, K, E, S, F, Q, R) = vars8 in
    record {
      length =
          by-le-times (pos n ∷ pos C ∷ pos k ∷ pos e ∷ pos spread ∷ pos far ∷ tile_sum n q ∷ tile_sum n r ∷ []) (# 128 ⊠ (K ⊠ K)) (# 1 ⊠ Q) (F ⊠ D ⊠ (F ⊠ D))
          (num 64 ⊗ le (# 2 ⊠ (K ⊠ K) ⊠ Q) (N ⊠ N ⊠ (# 12 ⊠ (D ⊠ D ⊠ (K ⊠ K))) ⊞ # 3 ⊠ (D ⊠ D) ⊠ R) h
          ⊕ num 3 ⊗ sqr D ⊗ le (# 64 ⊠ R) (E ⊠ E) g.length
          ⊕ num 3 ⊗ sqr D ⊗ le E (S ⊠ K) (le-pos small) ⊗ (nn E (0≤pos e) ⊕ nn S (0≤pos spread) ⊗ nn K (0≤pos k))
          ⊕ sqr D ⊗ sqr K ⊗ le (# 768 ⊠ (N ⊠ N) ⊞ # 3 ⊠ (S ⊠ S)) (# 128 ⊠ (F ⊠ F)) (le-pos enough))
          (pos-above (mul-pos {m = 128} (lit< tt) (mul-pos l l))) tt;
    }

-- the bins of the spatial correction: the recipe's, the exact ones, and these times C
module _ (s : Side) (others : ℕ) (t : FilteredTile) where
  abbrev copy_re : ℕ → ℕ → ℤ
  copy_re u v = copy_filtered s (t.spatial u v) (bin_re s (copy_at s others t) u v) (bin_im s (copy_at s others t) u v)

  abbrev copy_im : ℕ → ℕ → ℤ
  copy_im u v = copy_filtered s (t.spatial u v) (bin_im s (copy_at s others t) u v) (bin_re s (copy_at s others t) u v)

  abbrev merged_re : ℕ → ℕ → Frac
  merged_re u v = exact_wiener s (t.spatial u v) (exact_bin_re s (exact_merged_at s others t) u v) (exact_bin_im s (exact_merged_at s others t) u v)

  abbrev merged_im : ℕ → ℕ → Frac
  merged_im u v = exact_wiener s (t.spatial u v) (exact_bin_im s (exact_merged_at s others t) u v) (exact_bin_re s (exact_merged_at s others t) u v)

  module _ (C : ℕ) where
    abbrev whole_re : ℕ → ℕ → ℤ
    whole_re u v = numerator C (merged_re u v)

    abbrev whole_im : ℕ → ℕ → ℤ
    whole_im u v = numerator C (merged_im u v)

    -- their errors
    abbrev error_re : ℕ → ℕ → ℤ
    error_re = mixed (pos C) (pos s.parts) copy_re whole_re

    abbrev error_im : ℕ → ℕ → ℤ
    error_im = mixed (pos C) (pos s.parts) copy_im whole_im

module _ {s : Side} {most w gain spread far others : ℕ} (f : Fitting s most w) (g : Gain s gain) (fig : Figures s gain spread far others) (t : FilteredTile) where
  -- with a common denominator D of the merge's bins, and C of the filter's
  module _ (D C : ℕ) (D-above : 0 < D) (C-above : 0 < C) (merge-clears : (z : ℕ) → z < others → ClearsBoth s.side D (exact_re s t z) (exact_im s t z)) (filter-clears : ClearsBoth s.side C (merged_re s others t) (merged_im s others t)) where
    -- the exact merged tile has the scale 256·m, and its bins in sixteenths the scale m·sixteenth
    abbrev m : ℕ
    m = D * s.divisor * suc others

    abbrev sixteenth : ℕ
    sixteenth = 256 * s.quantum

    m-above : 0 < m
    m-above = mul-pos (mul-pos D-above s.divisor_above) (omega arith)

    sixteenth-above : 0 < sixteenth
    sixteenth-above = mul-pos {m = 256} (lit< tt) s.quantum_above

    scales : 256 * (D * s.divisor) * suc others * s.scale ≡ s.parts * (m * sixteenth)
    scales = omega (arith, ap (λ k. D * s.divisor * suc others * k) f.scale_is)

    bin-re : (u v : ℕ) → Near 0 1 (bin_re s (whole_merged s others t D) u v) (pos (s.parts * (m * sixteenth))) (exact_bin_re s (exact_merged_at s others t) u v)
    bin-re u v =
        subst (λ k. Near 0 1 (bin_re s (whole_merged s others t D) u v) (pos k) (exact_bin_re s (exact_merged_at s others t) u v)) scales
        (bin-re-same s (whole_merged s others t D) (exact_merged_at s others t) (merged-same s others t D f merge-clears) u v)

    bin-im : (u v : ℕ) → Near 0 1 (bin_im s (whole_merged s others t D) u v) (pos (s.parts * (m * sixteenth))) (exact_bin_im s (exact_merged_at s others t) u v)
    bin-im u v =
        subst (λ k. Near 0 1 (bin_im s (whole_merged s others t D) u v) (pos k) (exact_bin_im s (exact_merged_at s others t) u v)) scales
        (bin-im-same s (whole_merged s others t D) (exact_merged_at s others t) (merged-same s others t D f merge-clears) u v)

    whole_same : (u v : ℕ) → u < s.side → v < s.side → Near 0 1 (whole_re s others t C u v) (pos C) (merged_re s others t u v) × Near 0 1 (whole_im s others t C u v) (pos C) (merged_im s others t u v)
    whole_same u v i j = (numerator-is (filter-clears u i v j).0, numerator-is (filter-clears u i v j).1)

    -- the errors of the copy's bins
    abbrev bin_error : ℕ → ℕ → ℤ
    bin_error = moduli (bin_re s (copy_error s others t D)) (bin_im s (copy_error s others t D))

    bin-error-is : (u v : ℕ) → sq (pos m *ℤ bin_re s (copy_at s others t) u v -ℤ bin_re s (whole_merged s others t D) u v) +ℤ sq (pos m *ℤ bin_im s (copy_at s others t) u v -ℤ bin_im s (whole_merged s others t D) u v) ≡ bin_error u v
    bin-error-is u v =
        ap₂ (λ a b. sq a +ℤ sq b)
        (plain (bin_re s (copy_at s others t) u v) (bin_re s (whole_merged s others t D) u v) ∙ sym (bin-re-linear s (pos m) (pos 1) (copy_at s others t) (whole_merged s others t D) u v))
        (plain (bin_im s (copy_at s others t) u v) (bin_im s (whole_merged s others t D) u v) ∙ sym (bin-im-linear s (pos m) (pos 1) (copy_at s others t) (whole_merged s others t D) u v))
      where
        plain : (a b : ℤ) → pos m *ℤ a -ℤ b ≡ pos m *ℤ a -ℤ pos 1 *ℤ b
        plain a b = ring (pos m ∷ a ∷ b ∷ []) (var 0 ⊠ var 1 ⊟ var 2) (var 0 ⊠ var 1 ⊟ # 1 ⊠ var 2) tt

    steps : (u v : ℕ) → u < s.side → v < s.side →
        (pos 2 *ℤ (pos (m * sixteenth) *ℤ pos (m * sixteenth)) *ℤ moduli (error_re s others t C) (error_im s others t C) u v) ≤ℤ (pos C *ℤ pos C *ℤ (pos 12 *ℤ (pos (m * sixteenth) *ℤ pos (m * sixteenth)) +ℤ pos 3 *ℤ bin_error u v))
    unfolding copy_filtered copy_quantized
    steps u v i j =
        let X = bin_re s (copy_at s others t) u v in
        let Y = bin_im s (copy_at s others t) u v in
        let k = pos (m * sixteenth) in
        subst (λ e. (pos 2 *ℤ (k *ℤ k) *ℤ moduli (error_re s others t C) (error_im s others t C) u v) ≤ℤ (pos C *ℤ pos C *ℤ (pos 12 *ℤ (k *ℤ k) +ℤ pos 3 *ℤ e))) (bin-error-is u v)
        (bin-step s m sixteenth C X Y (bin_re s (whole_merged s others t D) u v) (bin_im s (whole_merged s others t D) u v) (whole_re s others t C u v) (whole_im s others t C u v) m-above sixteenth-above (bin-re u v) (bin-im u v)
        (t.spatial u v) (whole_same u v i j).0 (whole_same u v i j).1 (copy_quantized s X) (copy_quantized s Y) (away-rounds X sixteenth sixteenth-above) (away-rounds Y sixteenth sixteenth-above))

    abbrev copy_spread : ℕ
    copy_spread = gain * (s.side * (4 * (D * s.divisor * suc others)) + others * (s.side * (4 * (D * s.divisor)) + gain * (s.side * (17 * D))))

    spread-within : copy_spread ≤ spread * (m * sixteenth)
    spread-within = omega (arith, mul-le-mul_left D fig.spread_enough)

    error-length : Length s.side (far * C) 1 (moduli (error_re s others t C) (error_im s others t C))
    error-length =
        step-length s.side C (m * sixteenth) copy_spread spread far (moduli (error_re s others t C) (error_im s others t C)) bin_error (mul-pos m-above sixteenth-above)
        (step_sum s.side C (m * sixteenth) (moduli (error_re s others t C) (error_im s others t C)) bin_error steps)
        (forth-length g (copy_error s others t D) (copy-length s others t D f merge-clears g fig.gain_above D-above)) spread-within fig.far_enough

    inverse-within : (y x : ℕ) → y < s.side → x < s.side → nat_abs (pos 1 *ℤ (pos C *ℤ inverse_re s (copy_re s others t) (copy_im s others t) y x -ℤ pos s.parts *ℤ inverse_re s (whole_re s others t C) (whole_im s others t C) y x)) ≤ gain * far * C
    inverse-within y x i j =
        subst₂ (λ z e. nat_abs (pos 1 *ℤ z) ≤ e) (inverse-linear s (pos C) (pos s.parts) (copy_re s others t) (copy_im s others t) (whole_re s others t C) (whole_im s others t C) y x) (omega arith)
        (length_at (inverse_re s (error_re s others t C) (error_im s others t C)) (back-length g (error_re s others t C) (error_im s others t C) error-length) y x i j)

    filter-near : (y x : ℕ) → y < s.side → x < s.side → Near (spatial_error s gain far) (2 * s.divisor) (spatial_at s others t y x) (pos 256) (exact_spatial_at s others t y x)
    unfolding spatial_at inverse_at exact_spatial_at exact_inverse_at
    filter-near y x i j =
        near-mono (omega (arith, s.divisor_above)) (omega arith)
        (near-rounds
        (subst (λ k. Near (gain * far) 1 (inverse_re s (copy_re s others t) (copy_im s others t) y x) (pos k) (exact_spatial_at s others t y x)) f.divisor_is
        (near-over (s.side * s.side * s.scale) s.size_above
        (restored (inverse-same s (whole_re s others t C) (whole_im s others t C) (merged_re s others t) (merged_im s others t) whole_same y x) C-above (inverse-within y x i j))))
        (away-rounds (inverse_re s (copy_re s others t) (copy_im s others t) y x) s.divisor s.divisor_above))

  pub spatial-near : (y x : ℕ) → y < s.side → x < s.side → Near (spatial_error s gain far) (2 * s.divisor) (spatial_at s others t y x) (pos 256) (exact_spatial_at s others t y x)
  spatial-near =
      let d = tiles-common others s.side (exact_re s t) (exact_im s t) in
      let c = tile-common s.side (merged_re s others t) (merged_im s others t) in
      filter-near d.0 c.0 d.1 c.1 d.2 c.2

  -- what is taken from T0 in all
  pub taken-near : (y x : ℕ) → y < s.side → x < s.side → Near (others * tile_error s most + suc others * spatial_error s gain far) (2 * s.divisor) (taken_at s others t y x) (pos 256) (exact_taken_at s others t y x)
  unfolding taken_at merged_sum exact_taken_at exact_sum
  taken-near y x i j =
      near_add (near-sums others _ _ (λ z l. tile-near f t.noise (t.differences z) y x)) (near-scale (pos (suc others)) (spatial-near y x i j))

-- ---- one sample: m/n is at least 1/2 + (N − 1)/N·tile_error/(512·divisor) + spatial_error/(512·divisor)

module _ {s : Side} {most w gain spread far others : ℕ} (f : Fitting s most w) (g : Gain s gain) (fig : Figures s gain spread far others) where
  inside : (a i : ℕ) → a < s.half → i ≤ 1 → a + i * s.half < s.side
  inside a i h l = omega (arith, mul-le-mul_right s.half l, fig.halves)

  pub filtered-within : (a b : ℕ) (tiles : ℕ → FilteredTile) (t0 : ℤ) → a < s.half → b < s.half → (m n : ℕ) →
      n * (others * tile_error s most + suc others * spatial_error s gain far + 128 * (2 * s.divisor * suc others)) ≤ m * (256 * (2 * s.divisor * suc others)) →
      Within m n (whole (filtered_sample s a b others tiles t0)) (exact_filtered_sample s a b others tiles t0)
  unfolding filtered_sample exact_filtered_sample
  filtered-within a b tiles t0 k l =
      rounded-within f a b others (others * tile_error s most + suc others * spatial_error s gain far) (2 * s.divisor) _ _ t0 k l above-divisor
      (λ i j. near-mono above-divisor (omega arith) (near-scale (pos (weight_in s a b i)) (taken-near f g fig (tiles i) (row_in s a i) (column_in s b i) (inside a (i / 2) k (omega arith)) (inside b (i % 2) l (omega arith)))))
    where
      above-divisor : 0 < 2 * s.divisor
      above-divisor = mul-pos {m = 2} (lit< tt) s.divisor_above
