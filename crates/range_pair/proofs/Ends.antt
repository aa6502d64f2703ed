-- The ends of one plane, from half of both inverse sums and the width that the code works out.
use Rattle.std.specs.Prelude.{◌≡◌, ◌∷◌, ◌+◌, ◌-◌, ◌*◌, ◌/◌, ◌%◌, ◌^◌, ◌<◌, ◌+ℤ◌, ◌-ℤ◌, ◌*ℤ◌}
use Rattle.range_pair.specs.Prelude.{refl, sym, ap, ap₂, ◌∙◌, Bool, true, false, cond, List, [], ℕ, suc, arith, lit<, eqb, ltb, get_or, ℤ, pos, negsuc, nat_abs, neg_ℤ, shr_z, var, ◌⊞◌, ◌⊟◌, ◌⊠◌, ⊖◌, #◌, ring, sum_z, sum_n, min_z, max_z, away, cos_at, sin_at, side16, filtered, twiddle_re, twiddle_im, inverse_re, end_re, least_at, greatest_at, backward, half_sum, Mirrored, two_way, apart, tile_re, tile_im, fold_re, fold_im, spread, counted, gain_re, gain_im, apart_of, back_sum_of, counted_of, fold_im_of, fold_re_of, gain_im_of, gain_re_of, spread_of, lines_in}
use native.Mathlib.Nat.{mod-lt}
use Rattle.algebra.specs.Order.{abs-mul, abs_neg}
use Rattle.algebra.specs.SumLaws.{sum_z-cong, sum_z-add, sum_n-cong, sum_n-scale}
use Rattle.sequences.specs.Grid.{grid, cell, cell-grid}
use Rattle.recipe.specs.TableLaws.{opposite, cosine_opposite, sine_opposite}
use Rattle.tile_spectrum.specs.Lines.HalfSumLaws.{half-sum}
use Rattle.tile_spectrum.specs.SpectrumLaws.{bins-mirrored-of, bin-re, bin-im, filtered-odd-of, filtered-even-of}
use Rattle.tile_spectrum.specs.Turns.{turns16}
use Rattle.tile_spectrum.specs.FoldLaws.{inverse-folds}
use Rattle.tile_spectrum.specs.PlaceLaws.{spread-ext}
use Rattle.tile_spatial.proofs.LinePlaces.{tile-re-ext, tile-im-ext}
use Rattle.range_pair.specs.Widths.{both_re, width_at}
use Rattle.range_pair.specs.WidthLaws.{Picks, min-picks, max-picks, part_re, part_im, end-halves}
use Rattle.range_pair.specs.Factors.{factor_at, times_at, distance_re, distance_im, line_width, pair_width, quarter_of, greatest_of, least_of}
use Rattle.range_pair.specs.FactorLaws.{factor-re, factor-im}
use Rattle.range_pair.specs.UnfoldLaws.{part-re, part-im}
use Rattle.range_pair.specs.HalfLaws.{half-columns}
use Rattle.range_pair.proofs.Tables.{entry-re, entry-im}

-- ---- folds, one less the other

module _ (g h g' h' : ℕ → ℤ) (b : ℕ) where
  fold-re-sub : fold_re g h b -ℤ fold_re g' h' b ≡ fold_re (λ u. g u -ℤ g' u) (λ u. h u -ℤ h' u) b
  unfolding fold_re_of apart_of side16
  fold-re-sub = go (eqb (b % 8) 0) (ltb b 9)
    where
      go : (c d : Bool) → cond c (g b) (cond d (g b +ℤ g (16 - b)) (h (b - 8) -ℤ h (24 - b))) -ℤ cond c (g' b) (cond d (g' b +ℤ g' (16 - b)) (h' (b - 8) -ℤ h' (24 - b)))
          ≡ cond c (g b -ℤ g' b) (cond d ((g b -ℤ g' b) +ℤ (g (16 - b) -ℤ g' (16 - b))) ((h (b - 8) -ℤ h' (b - 8)) -ℤ (h (24 - b) -ℤ h' (24 - b))))
      go true d = refl
      go false true = ring (g b ∷ g (16 - b) ∷ g' b ∷ g' (16 - b) ∷ []) ((var 0 ⊞ var 1) ⊟ (var 2 ⊞ var 3)) ((var 0 ⊟ var 2) ⊞ (var 1 ⊟ var 3)) tt
      go false false = ring (h (b - 8) ∷ h (24 - b) ∷ h' (b - 8) ∷ h' (24 - b) ∷ []) ((var 0 ⊟ var 1) ⊟ (var 2 ⊟ var 3)) ((var 0 ⊟ var 2) ⊟ (var 1 ⊟ var 3)) tt

  fold-im-sub : fold_im g h b -ℤ fold_im g' h' b ≡ fold_im (λ u. g u -ℤ g' u) (λ u. h u -ℤ h' u) b
  unfolding fold_im_of apart_of side16
  fold-im-sub = go (eqb (b % 8) 0) (ltb b 9)
    where
      go : (c d : Bool) → cond c (h b) (cond d (h b +ℤ h (16 - b)) (g (24 - b) -ℤ g (b - 8))) -ℤ cond c (h' b) (cond d (h' b +ℤ h' (16 - b)) (g' (24 - b) -ℤ g' (b - 8)))
          ≡ cond c (h b -ℤ h' b) (cond d ((h b -ℤ h' b) +ℤ (h (16 - b) -ℤ h' (16 - b))) ((g (24 - b) -ℤ g' (24 - b)) -ℤ (g (b - 8) -ℤ g' (b - 8))))
      go true d = refl
      go false true = ring (h b ∷ h (16 - b) ∷ h' b ∷ h' (16 - b) ∷ []) ((var 0 ⊞ var 1) ⊟ (var 2 ⊞ var 3)) ((var 0 ⊟ var 2) ⊞ (var 1 ⊟ var 3)) tt
      go false false = ring (g (24 - b) ∷ g (b - 8) ∷ g' (24 - b) ∷ g' (b - 8) ∷ []) ((var 0 ⊟ var 1) ⊟ (var 2 ⊟ var 3)) ((var 0 ⊟ var 2) ⊟ (var 1 ⊟ var 3)) tt

spread-sub : (g h g' h' : ℕ → ℕ → ℤ) (k b : ℕ) → spread g h k b -ℤ spread g' h' k b ≡ spread (λ u v. g u v -ℤ g' u v) (λ u v. h u v -ℤ h' u v) k b
unfolding spread_of side16
spread-sub g h g' h' k b = go (ltb k 9)
  where
    go : (c : Bool) → cond c (fold_re (λ u. g u k) (λ u. h u k)) (fold_im (λ u. g u (k - 8)) (λ u. h u (k - 8))) b -ℤ cond c (fold_re (λ u. g' u k) (λ u. h' u k)) (fold_im (λ u. g' u (k - 8)) (λ u. h' u (k - 8))) b
        ≡ cond c (fold_re (λ u. g u k -ℤ g' u k) (λ u. h u k -ℤ h' u k)) (fold_im (λ u. g u (k - 8) -ℤ g' u (k - 8)) (λ u. h u (k - 8) -ℤ h' u (k - 8))) b
    go true = fold-re-sub (λ u. g u k) (λ u. h u k) (λ u. g' u k) (λ u. h' u k) b
    go false = fold-im-sub (λ u. g u (k - 8)) (λ u. h u (k - 8)) (λ u. g' u (k - 8)) (λ u. h' u (k - 8)) b

apart-mirrored : (g h g' h' : ℕ → ℕ → ℤ) → Mirrored g h → Mirrored g' h' → Mirrored (λ u v. g u v -ℤ g' u v) (λ u v. h u v -ℤ h' u v)
apart-mirrored g h g' h' m n =
    record {
      re = λ u v i j. ap₂ ◌-ℤ◌ (m.re u v i j) (n.re u v i j);
      im = λ u v i j. ap₂ ◌-ℤ◌ (m.im u v i j) (n.im u v i j) ∙ ring (h u v ∷ h' u v ∷ []) (⊖ var 0 ⊟ ⊖ var 1) (⊖ (var 0 ⊟ var 1)) tt;
    }

-- ---- how often a bin counts

counts : (u v : ℕ) (z : ℤ) → times_at u v * nat_abs (counted u z) ≡ 2 * (apart v 1 2 * nat_abs z)
unfolding times_at counted_of apart_of side16
counts u v z = go (eqb (u % 8) 0) (eqb (v % 8) 0)
  where
    go : (c d : Bool) → cond c 2 1 * cond d 1 2 * nat_abs (cond c z (pos 2 *ℤ z)) ≡ 2 * (cond d 1 2 * nat_abs z)
    go true true = omega arith
    go true false = omega arith
    go false true = omega (arith, abs-mul (pos 2) z)
    go false false = omega (arith, abs-mul (pos 2) z)

-- ---- the width of bins that are mirror images

module _ (g h g' h' : ℕ → ℕ → ℤ) (y x : ℕ) where
  abbrev bin_width : ℕ → ℕ → ℕ
  bin_width u v = nat_abs (twiddle_re side16 y x u v) * nat_abs (g u v -ℤ g' u v) + nat_abs (twiddle_im side16 y x u v) * nat_abs (h u v -ℤ h' u v)

  module _ (i : y < 16) (j : x < 16) (u v : ℕ) (k : u < 16) (l : v < 16) where
    factor-re-mirror : twiddle_re side16 y x (opposite u) (opposite v) ≡ twiddle_re side16 y x u v
    unfolding twiddle_re
    factor-re-mirror =
        ap₂ (λ a b. a *ℤ b -ℤ sin_at side16 (opposite u * y) *ℤ sin_at side16 (opposite v * x)) (cosine_opposite u y k i) (cosine_opposite v x l j)
        ∙ ap₂ (λ a b. cos_at side16 (u * y) *ℤ cos_at side16 (v * x) -ℤ a *ℤ b) (sine_opposite u y k i) (sine_opposite v x l j)
        ∙ ring (cos_at side16 (u * y) ∷ cos_at side16 (v * x) ∷ sin_at side16 (u * y) ∷ sin_at side16 (v * x) ∷ []) (var 0 ⊠ var 1 ⊟ ⊖ var 2 ⊠ ⊖ var 3) (var 0 ⊠ var 1 ⊟ var 2 ⊠ var 3) tt

    factor-im-mirror : twiddle_im side16 y x (opposite u) (opposite v) ≡ neg_ℤ (twiddle_im side16 y x u v)
    unfolding twiddle_im
    factor-im-mirror =
        ap₂ (λ a b. a *ℤ sin_at side16 (opposite v * x) +ℤ sin_at side16 (opposite u * y) *ℤ b) (cosine_opposite u y k i) (cosine_opposite v x l j)
        ∙ ap₂ (λ a b. cos_at side16 (u * y) *ℤ b +ℤ a *ℤ cos_at side16 (v * x)) (sine_opposite u y k i) (sine_opposite v x l j)
        ∙ ring (cos_at side16 (u * y) ∷ cos_at side16 (v * x) ∷ sin_at side16 (u * y) ∷ sin_at side16 (v * x) ∷ []) (var 0 ⊠ ⊖ var 3 ⊞ ⊖ var 2 ⊠ var 1) (⊖ (var 0 ⊠ var 3 ⊞ var 2 ⊠ var 1)) tt

    bin-mirror : Mirrored g h → Mirrored g' h' → bin_width (opposite u) (opposite v) ≡ bin_width u v
    unfolding side16
    bin-mirror m n =
        let d = apart-mirrored g h g' h' m n in
        ap₂ ◌+◌
        (ap₂ (λ a b. nat_abs a * nat_abs b) factor-re-mirror (d.re u v k l))
        (ap₂ (λ a b. nat_abs a * nat_abs b) factor-im-mirror (d.im u v k l) ∙ ap₂ ◌*◌ (abs_neg (twiddle_im side16 y x u v)) (abs_neg (h u v -ℤ h' u v)))

  half-width : Mirrored g h → Mirrored g' h' → y < 16 → x < 16 → width_at side16 g h g' h' y x ≡ sum_n 16 (λ u. sum_n 9 (λ v. apart v 1 2 * bin_width u v))
  unfolding width_at side16
  half-width m n i j = half-columns bin_width (λ u v k l. bin-mirror i j u v k l m n)

-- ---- the width as the code works it out, from places w that hold both folds, one less the other

product : (f a g b c : ℕ) → f * (2 * (c * a)) + g * (2 * (c * b)) ≡ 2 * (c * (f * a + g * b))
product f a g b c = omega arith

module _ (g h g' h' : ℕ → ℕ → ℤ) (m : Mirrored g h) (n : Mirrored g' h') (w : List (List ℤ)) (p : ℕ) (small : p < 2) (e : (k b : ℕ) → k < 16 → b < 16 → lines_in w p k b ≡ spread g h k b -ℤ spread g' h' k b) where
  abbrev re : ℕ → ℕ → ℤ
  re u v = g u v -ℤ g' u v

  abbrev im : ℕ → ℕ → ℤ
  im u v = h u v -ℤ h' u v

  module _ (u v : ℕ) (k : u < 16) (l : v < 9) where
    column : (2 * v + p) / 2 ≡ v
    column = omega arith

    plane : (2 * v + p) % 2 ≡ p
    plane = omega arith

    place : (k b : ℕ) → k < 16 → b < 16 → lines_in w p k b ≡ spread re im k b
    place k b i j = e k b i j ∙ spread-sub g h g' h' k b

    distance-re : distance_re w u (2 * v + p) ≡ 2 * (apart v 1 2 * nat_abs (re u v))
    unfolding distance_re
    distance-re =
        ap₂ (λ v p. times_at u v * nat_abs (tile_re (lines_in w p) u v)) column plane
        ∙ ap (λ z. times_at u v * nat_abs z) (tile-re-ext (lines_in w p) (spread re im) place u v k l ∙ part-re re im (apart-mirrored g h g' h' m n) u v k l)
        ∙ counts u v (re u v)

    distance-im : distance_im w u (2 * v + p) ≡ 2 * (apart v 1 2 * nat_abs (im u v))
    unfolding distance_im
    distance-im =
        ap₂ (λ v p. times_at u v * nat_abs (tile_im (lines_in w p) u v)) column plane
        ∙ ap (λ z. times_at u v * nat_abs z) (tile-im-ext (lines_in w p) (spread re im) place u v k l ∙ part-im re im (apart-mirrored g h g' h' m n) u v k l)
        ∙ counts u v (im u v)

    entry : (f : ℕ → ℕ → ℕ) → get_or (get_or (grid 16 18 f) u []) (2 * v + p) 0 ≡ f u (2 * v + p)
    unfolding cell
    entry f = cell-grid 0 16 18 f u (2 * v + p) k (omega arith)

    module _ (y x : ℕ) where
      abbrev i : ℕ
      i = (u * (y % 8)) % 8

      abbrev j : ℕ
      j = (v * (x % 8)) % 8

      term : get_or (get_or (grid 8 16 factor_at) i []) (2 * j) 0 * get_or (get_or (grid 16 18 (distance_re w)) u []) (2 * v + p) 0 + get_or (get_or (grid 8 16 factor_at) i []) (2 * j + 1) 0 * get_or (get_or (grid 16 18 (distance_im w)) u []) (2 * v + p) 0
          ≡ 2 * (apart v 1 2 * bin_width g h g' h' y x u v)
      term =
          let a : i < 8 = mod-lt (u * (y % 8)) (lit< tt) in
          let b : j < 8 = mod-lt (v * (x % 8)) (lit< tt) in
          ap₂ ◌+◌
          (ap₂ ◌*◌ (entry-re i j a b ∙ sym (factor-re y x u v)) (entry (distance_re w) ∙ distance-re))
          (ap₂ ◌*◌ (entry-im i j a b ∙ sym (factor-im y x u v)) (entry (distance_im w) ∙ distance-im))
          ∙ product (nat_abs (twiddle_re side16 y x u v)) (nat_abs (re u v)) (nat_abs (twiddle_im side16 y x u v)) (nat_abs (im u v)) (apart v 1 2)

  pub width-twice : (y x : ℕ) → y < 16 → x < 16 → pair_width (grid 8 16 factor_at) (grid 16 18 (distance_re w)) (grid 16 18 (distance_im w)) (y % 8) (2 * (x % 8) + p) ≡ 2 * width_at side16 g h g' h' y x
  unfolding pair_width line_width
  width-twice y x i j =
      let half : (2 * (x % 8) + p) / 2 ≡ x % 8 = omega arith in
      let parity : (2 * (x % 8) + p) % 2 ≡ p = omega arith in
      rw (half, parity)
      (sum_n-cong 16 _ _ (λ u k. sum_n-cong 9 _ _ (λ v l. term u v k l y x) ∙ sum_n-scale 9 2 (λ v. apart v 1 2 * bin_width g h g' h' y x u v))
      ∙ sum_n-scale 16 2 (λ u. sum_n 9 (λ v. apart v 1 2 * bin_width g h g' h' y x u v))
      ∙ ap (λ n. 2 * n) (sym (half-width g h g' h' y x m n i j)))

-- ---- both inverse sums

both_is : (g h g' h' : ℕ → ℕ → ℤ) (y x : ℕ) → both_re side16 g h g' h' y x ≡ inverse_re side16 g h y x +ℤ inverse_re side16 g' h' y x
unfolding both_re inverse_re side16
both_is g h g' h' y x =
    sum_z-cong 16 _ _ (λ u i.
    sum_z-cong 16 _ (λ v. (twiddle_re side16 y x u v *ℤ g u v -ℤ twiddle_im side16 y x u v *ℤ h u v) +ℤ (twiddle_re side16 y x u v *ℤ g' u v -ℤ twiddle_im side16 y x u v *ℤ h' u v))
    (λ v j. ring (twiddle_re side16 y x u v ∷ twiddle_im side16 y x u v ∷ g u v ∷ h u v ∷ g' u v ∷ h' u v ∷ [])
    (var 0 ⊠ (var 2 ⊞ var 4) ⊟ var 1 ⊠ (var 3 ⊞ var 5)) ((var 0 ⊠ var 2 ⊟ var 1 ⊠ var 3) ⊞ (var 0 ⊠ var 4 ⊟ var 1 ⊠ var 5)) tt)
    ∙ sum_z-add 16 (λ v. twiddle_re side16 y x u v *ℤ g u v -ℤ twiddle_im side16 y x u v *ℤ h u v) (λ v. twiddle_re side16 y x u v *ℤ g' u v -ℤ twiddle_im side16 y x u v *ℤ h' u v))
    ∙ sum_z-add 16 (λ u. sum_z 16 (λ v. twiddle_re side16 y x u v *ℤ g u v -ℤ twiddle_im side16 y x u v *ℤ h u v)) (λ u. sum_z 16 (λ v. twiddle_re side16 y x u v *ℤ g' u v -ℤ twiddle_im side16 y x u v *ℤ h' u v))

quarter-of : (e : ℤ) → shr_z (pos 4 *ℤ e) 4 ≡ e
quarter-of (pos a) = let h : 4 * a / 4 ≡ a = omega arith in ap pos h
quarter-of (negsuc a) =
    let n : 4 * suc a ≡ suc (3 + 4 * a) = omega arith in
    let h : (3 + 4 * a) / 4 ≡ a = omega arith in
    ap (λ (m : ℕ). shr_z (neg_ℤ (pos m)) 4) n ∙ ap negsuc h

-- ---- one plane of differences

module _ (d : ℕ → ℕ → ℤ) where
  part-mirrored : (noise : ℕ) → Mirrored (part_re side16 d noise) (part_im side16 d noise)
  part-mirrored noise =
      let m = bins-mirrored-of turns16 d in
      record {
        re = λ u v i j. ap₂ (filtered side16 noise) (m.re u v i j) (m.im u v i j) ∙ filtered-even-of side16 noise _ _;
        im = λ u v i j. ap₂ (filtered side16 noise) (m.im u v i j) (m.re u v i j) ∙ filtered-odd-of side16 noise _ _;
      }

  -- G, folded, and half of its inverse sum
  abbrev pub fold_at : ℕ → ℕ → ℕ → ℤ
  fold_at noise = spread (part_re side16 d noise) (part_im side16 d noise)

  abbrev pub half_at : ℕ → ℕ → ℕ → ℤ
  half_at noise y x = half_sum (λ k. backward (fold_at noise k) y) x

  pub fold_is : (noise k b : ℕ) → k < 16 → b < 16 → spread (gain_re noise (two_way d)) (gain_im noise (two_way d)) k b ≡ fold_at noise k b
  unfolding gain_re_of gain_im_of side16
  fold_is noise =
      spread-ext turns16 _ _ _ _ (λ u v i j. ap₂ (filtered side16 noise) (bin-re d u v i j) (bin-im d u v i j)) (λ u v i j. ap₂ (filtered side16 noise) (bin-im d u v i j) (bin-re d u v i j))

  half_twice : (noise y x : ℕ) → y < 16 → x < 16 → inverse_re side16 (part_re side16 d noise) (part_im side16 d noise) y x ≡ pos 2 *ℤ half_at noise y x
  unfolding back_sum_of counted_of apart_of side16
  half_twice noise y x i j =
      inverse-folds turns16 (part_re side16 d noise) (part_im side16 d noise) y i (part-mirrored noise) x j ∙ sym (half-sum (λ k. backward (fold_at noise k) y) x)

  module _ (lower upper y x : ℕ) (i : y < 16) (j : x < 16) where
    abbrev width : ℕ
    width = width_at side16 (part_re side16 d lower) (part_im side16 d lower) (part_re side16 d upper) (part_im side16 d upper) y x

    four : (σ : ℤ) {added taken : ℤ → ℤ → ℤ} → Picks σ added → Picks (negsuc 0 *ℤ σ) taken → pos 4 *ℤ (half_at lower y x +ℤ half_at upper y x) +ℤ σ *ℤ pos (2 * width) ≡ pos 4 *ℤ end_re side16 added taken lower upper d y x
    four σ {added} {taken} p q =
        let a = half_at lower y x in
        let b = half_at upper y x in
        let e = end_re side16 added taken lower upper d y x in
        ring (a ∷ b ∷ σ ∷ pos width ∷ []) (# 4 ⊠ (var 0 ⊞ var 1) ⊞ var 2 ⊠ (# 2 ⊠ var 3)) (# 2 ⊠ ((# 2 ⊠ var 0 ⊞ # 2 ⊠ var 1) ⊞ var 2 ⊠ var 3)) tt
        ∙ ap (λ z. pos 2 *ℤ (z +ℤ σ *ℤ pos width))
        (sym (both_is (part_re side16 d lower) (part_im side16 d lower) (part_re side16 d upper) (part_im side16 d upper) y x ∙ ap₂ ◌+ℤ◌ (half_twice lower y x i j) (half_twice upper y x i j)))
        ∙ ap (λ z. pos 2 *ℤ z) (sym (end-halves side16 d σ p q lower upper y x))
        ∙ ring (e ∷ []) (# 2 ⊠ (# 2 ⊠ var 0)) (# 4 ⊠ var 0) tt

    module _ (w : List (List ℤ)) (p : ℕ) (small : p < 2) (e : (k b : ℕ) → k < 16 → b < 16 → lines_in w p k b ≡ fold_at lower k b -ℤ fold_at upper k b) where
      abbrev pub coded : ℕ
      coded = pair_width (grid 8 16 factor_at) (grid 16 18 (distance_re w)) (grid 16 18 (distance_im w)) (y % 8) (2 * (x % 8) + p)

      coded-is : coded ≡ 2 * width
      coded-is =
          width-twice (part_re side16 d lower) (part_im side16 d lower) (part_re side16 d upper) (part_im side16 d upper) (part-mirrored lower) (part-mirrored upper) w p small e y x i j

      pub greatest_is : greatest_of (half_at lower y x) (half_at upper y x) coded ≡ greatest_at side16 lower upper d y x
      unfolding greatest_of greatest_at side16
      greatest_is =
          ap quarter_of
          (ap (λ n. pos 4 *ℤ (half_at lower y x +ℤ half_at upper y x) +ℤ pos n) coded-is
          ∙ ring (half_at lower y x ∷ half_at upper y x ∷ pos (2 * width) ∷ []) (# 4 ⊠ (var 0 ⊞ var 1) ⊞ var 2) (# 4 ⊠ (var 0 ⊞ var 1) ⊞ # 1 ⊠ var 2) tt
          ∙ four (pos 1) max-picks min-picks)
          ∙ ap (λ z. away z (2 ^ 32)) (quarter-of (end_re side16 max_z min_z lower upper d y x))

      pub least_is : least_of (half_at lower y x) (half_at upper y x) coded ≡ least_at side16 lower upper d y x
      unfolding least_of least_at side16
      least_is =
          ap quarter_of
          (ap (λ n. pos 4 *ℤ (half_at lower y x +ℤ half_at upper y x) -ℤ pos n) coded-is
          ∙ ring (half_at lower y x ∷ half_at upper y x ∷ pos (2 * width) ∷ []) (# 4 ⊠ (var 0 ⊞ var 1) ⊟ var 2) (# 4 ⊠ (var 0 ⊞ var 1) ⊞ ⊖ # 1 ⊠ var 2) tt
          ∙ four (negsuc 0) min-picks max-picks)
          ∙ ap (λ z. away z (2 ^ 32)) (quarter-of (end_re side16 min_z max_z lower upper d y x))
