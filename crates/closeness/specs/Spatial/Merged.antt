-- The copy against the exact merged tile: how long the tile of their differences is.
-- Each bin of each correction is off by at most 3/2 sixteenths in each part, P and the copy are off by a half each: lengths of these add up, and the inverse keeps the bins'.
use Rattle.std.specs.Prelude.{◌≡◌, ◌∷◌, ◌+◌, ◌*◌, ◌≤◌, ◌<◌, ◌+ℤ◌, ◌-ℤ◌, ◌*ℤ◌, ◌≤ℤ◌}
use Rattle.closeness.specs.Spatial.Prelude.{◌∙◌, ap, subst, [], ℕ, suc, arith, lit<, ℤ, pos, nat_abs, vars4, vars6, vars7, ◌⊞◌, ◌⊟◌, ◌⊠◌, ⊖◌, #◌, ring, Frac, sq, sum_z, Side, bin_re, bin_im, filtered, inverse_re, inverse_at, correction_at, exact_filtered, exact_inverse_at, exact_correction_at, Fitting, FilteredTile, merged_sum, copy_at, exact_sum, exact_merged_at}
use Rattle.std.proofs.Common.{mul-pos}
use Rattle.algebra.specs.Order.{abs-upper, abs-lower}
use Rattle.algebra.specs.Cert.{num, le, sqr, ◌⊕◌, ◌⊗◌, by_le}
use Rattle.algebra.specs.NearestLaws.{Rounds, away-rounds}
use Rattle.algebra.specs.FractionLaws.{Near, near_sub, near-over, near-whole}
use Rattle.closeness.specs.Bins.{bin-near}
use Rattle.algebra.specs.Numerators.{ClearsBoth, numerator, numerator-is, same-times, same_sum, cleared}
use Rattle.closeness.specs.Spatial.Lengths.{Length, squares, minus, length-bounded, length-sub, length-sums, length-cong}
use Rattle.closeness.specs.Spatial.Linear.{mixed, sum-linear, inverse-linear}
use Rattle.closeness.specs.Spatial.Bessel.{Gain, back-length}
use Rattle.closeness.specs.Spatial.Transforms.{inverse-same}
use Rattle.closeness.specs.Spatial.Wiener.{rounds-square}

-- the bins of the z-th correction: the recipe's G, the exact ones, and these times D
module _ (s : Side) (t : FilteredTile) (z : ℕ) where
  abbrev pub recipe_re : ℕ → ℕ → ℤ
  recipe_re u v = filtered s t.noise (bin_re s (t.differences z) u v) (bin_im s (t.differences z) u v)

  abbrev pub recipe_im : ℕ → ℕ → ℤ
  recipe_im u v = filtered s t.noise (bin_im s (t.differences z) u v) (bin_re s (t.differences z) u v)

  abbrev pub exact_re : ℕ → ℕ → Frac
  exact_re u v = exact_filtered s t.noise (bin_re s (t.differences z) u v) (bin_im s (t.differences z) u v)

  abbrev pub exact_im : ℕ → ℕ → Frac
  exact_im u v = exact_filtered s t.noise (bin_im s (t.differences z) u v) (bin_re s (t.differences z) u v)

  module _ (D : ℕ) where
    abbrev whole_re : ℕ → ℕ → ℤ
    whole_re u v = numerator D (exact_re u v)

    abbrev whole_im : ℕ → ℕ → ℤ
    whole_im u v = numerator D (exact_im u v)

    abbrev whole_inverse : ℕ → ℕ → ℤ
    whole_inverse = inverse_re s whole_re whole_im

-- c times a rounding's error, which is at most m/2, in 1/8
rounding-bound : (c m : ℕ) (z q : ℤ) → Rounds z m q → (pos (8 * 8) *ℤ sq (pos c *ℤ (pos m *ℤ q -ℤ z))) ≤ℤ pos (4 * (c * m) * (4 * (c * m)))
rounding-bound c m z q h =
    let (C, M, Z, Q) = vars4 in
    let r = M ⊠ Q ⊟ Z in
    by_le (pos c ∷ pos m ∷ z ∷ q ∷ []) (# 64 ⊠ (C ⊠ r ⊠ (C ⊠ r))) (# 4 ⊠ (C ⊠ M) ⊠ (# 4 ⊠ (C ⊠ M))) (num 16 ⊗ sqr C ⊗ le (# 4 ⊠ (r ⊠ r)) (M ⊠ M) (rounds-square h)) tt

-- two parts of at most 3/2 have a modulus of at most 17/8
parts-bound : (D : ℕ) (p a m b o : ℤ) → nat_abs (pos 2 *ℤ (pos D *ℤ a -ℤ p *ℤ m)) ≤ 3 * D → nat_abs (pos 2 *ℤ (pos D *ℤ b -ℤ p *ℤ o)) ≤ 3 * D → (pos (8 * 8) *ℤ (sq (p *ℤ m -ℤ pos D *ℤ a) +ℤ sq (p *ℤ o -ℤ pos D *ℤ b))) ≤ℤ pos (17 * D * (17 * D))
parts-bound D p a m b o h g =
    let (C, P, A, M, B, O) = vars6 in
    let x = # 2 ⊠ (C ⊠ A ⊟ P ⊠ M) in
    let y = # 2 ⊠ (C ⊠ B ⊟ P ⊠ O) in
    let E = # 3 ⊠ C in
    let u = P ⊠ M ⊟ C ⊠ A in
    let v = P ⊠ O ⊟ C ⊠ B in
    by_le (pos D ∷ p ∷ a ∷ m ∷ b ∷ o ∷ []) (# 64 ⊠ (u ⊠ u ⊞ v ⊠ v)) (# 17 ⊠ C ⊠ (# 17 ⊠ C))
    (num 16 ⊗ (le x E (abs-upper _ h) ⊗ le (⊖ E) x (abs-lower _ h) ⊕ le y E (abs-upper _ g) ⊗ le (⊖ E) y (abs-lower _ g)) ⊕ sqr C) tt

module _ (s : Side) (others : ℕ) (t : FilteredTile) (D : ℕ) where
  -- the exact merged tile times 256·D·divisor·N
  unfoldable pub whole_merged : ℕ → ℕ → ℤ
  whole_merged y x = t.reference y x *ℤ pos (256 * (D * s.divisor) * suc others) -ℤ sum_z others (λ z. pos s.parts *ℤ whole_inverse s t z D y x)

  -- the copy's error, times that
  abbrev pub copy_error : ℕ → ℕ → ℤ
  copy_error = mixed (pos (D * s.divisor * suc others)) (pos 1) (copy_at s others t) whole_merged

  -- what rounding the copy puts to it, and what the z-th correction does: by rounding P, and by its bins
  abbrev copy_rounding : ℕ → ℕ → ℤ
  copy_rounding y x = pos (D * s.divisor) *ℤ (pos (suc others) *ℤ copy_at s others t y x -ℤ (t.reference y x *ℤ pos (256 * suc others) -ℤ merged_sum s others t y x))

  abbrev rounding : ℕ → ℕ → ℕ → ℤ
  rounding z y x = pos D *ℤ (pos s.divisor *ℤ correction_at s t.noise (t.differences z) y x -ℤ inverse_re s (recipe_re s t z) (recipe_im s t z) y x)

  abbrev bin_errors : ℕ → ℕ → ℕ → ℤ
  bin_errors z = inverse_re s (mixed (pos s.parts) (pos D) (whole_re s t z D) (recipe_re s t z)) (mixed (pos s.parts) (pos D) (whole_im s t z D) (recipe_im s t z))

  correction-error : (z y x : ℕ) → minus (rounding z) (bin_errors z) y x ≡ pos (D * s.divisor) *ℤ correction_at s t.noise (t.differences z) y x -ℤ pos 1 *ℤ (pos s.parts *ℤ whole_inverse s t z D y x)
  correction-error z y x =
      let (C, E, S, P, I, J) = vars6 in
      ap (λ b. rounding z y x -ℤ b) (inverse-linear s (pos s.parts) (pos D) (whole_re s t z D) (whole_im s t z D) (recipe_re s t z) (recipe_im s t z) y x)
      ∙ ring (pos D ∷ pos s.divisor ∷ pos s.parts ∷ correction_at s t.noise (t.differences z) y x ∷ inverse_re s (recipe_re s t z) (recipe_im s t z) y x ∷ whole_inverse s t z D y x ∷ [])
      (C ⊠ (E ⊠ P ⊟ I) ⊟ (S ⊠ J ⊟ C ⊠ I)) (C ⊠ E ⊠ P ⊟ # 1 ⊠ (S ⊠ J)) tt

  error-is : (y x : ℕ) → copy_rounding y x -ℤ sum_z others (λ z. minus (rounding z) (bin_errors z) y x) ≡ copy_error y x
  unfolding whole_merged merged_sum
  error-is y x =
      let (C, E, N, Q, R, P, J) = vars7 in
      ap (λ b. copy_rounding y x -ℤ b) (sum-linear others (pos (D * s.divisor)) (pos 1) _ _ _ (λ z. correction-error z y x))
      ∙ ring (pos D ∷ pos s.divisor ∷ pos (suc others) ∷ copy_at s others t y x ∷ t.reference y x ∷ merged_sum s others t y x ∷ sum_z others (λ z. pos s.parts *ℤ whole_inverse s t z D y x) ∷ [])
      (C ⊠ E ⊠ (N ⊠ Q ⊟ (R ⊠ (# 256 ⊠ N) ⊟ P)) ⊟ (C ⊠ E ⊠ P ⊟ # 1 ⊠ J)) (C ⊠ E ⊠ N ⊠ Q ⊟ # 1 ⊠ (R ⊠ (# 256 ⊠ (C ⊠ E) ⊠ N) ⊟ J)) tt

  module _ {most w : ℕ} (f : Fitting s most w) (clears : (z : ℕ) → z < others → ClearsBoth s.side D (exact_re s t z) (exact_im s t z)) where
    whole_same : (z : ℕ) → z < others → (u v : ℕ) → u < s.side → v < s.side → Near 0 1 (whole_re s t z D u v) (pos D) (exact_re s t z u v) × Near 0 1 (whole_im s t z D u v) (pos D) (exact_im s t z u v)
    whole_same z l u v i j = (numerator-is (clears z l u i v j).0, numerator-is (clears z l u i v j).1)

    correction-same : (z : ℕ) → z < others → (y x : ℕ) → Near 0 1 (pos s.parts *ℤ whole_inverse s t z D y x) (pos (256 * (D * s.divisor))) (exact_correction_at s t.noise (t.differences z) y x)
    unfolding exact_correction_at exact_inverse_at
    correction-same z l y x =
        subst (λ k. Near 0 1 (pos s.parts *ℤ whole_inverse s t z D y x) (pos k) (exact_correction_at s t.noise (t.differences z) y x)) (omega (arith, ap (λ k. D * k) f.divisor_is))
        (same-times (pos s.parts) (near-over (s.side * s.side * s.scale) s.size_above (inverse-same s (whole_re s t z D) (whole_im s t z D) (exact_re s t z) (exact_im s t z) (whole_same z l) y x)))

    pub merged-same : (y x : ℕ) → Near 0 1 (whole_merged y x) (pos (256 * (D * s.divisor) * suc others)) (exact_merged_at s others t y x)
    unfolding whole_merged exact_merged_at exact_sum
    merged-same y x =
        near_sub (near-whole 1 (256 * (D * s.divisor) * suc others) (t.reference y x)) (near-over (suc others) (omega arith) (same_sum others _ _ (λ z l. correction-same z l y x)))

    module _ {gain : ℕ} (g : Gain s gain) (g-above : 0 < gain) (D-above : 0 < D) where
      copy-rounding : Length s.side (s.side * (4 * (D * s.divisor * suc others))) 8 (squares copy_rounding)
      unfolding copy_at
      copy-rounding =
          length-bounded s.side 8 (4 * (D * s.divisor * suc others)) (squares copy_rounding)
          (λ y x i j. let m = t.reference y x *ℤ pos (256 * suc others) -ℤ merged_sum s others t y x in rounding-bound (D * s.divisor) (suc others) m (copy_at s others t y x) (away-rounds m (suc others) (omega arith)))

      correction-rounding : (z : ℕ) → Length s.side (s.side * (4 * (D * s.divisor))) 8 (squares (rounding z))
      unfolding correction_at inverse_at
      correction-rounding z =
          length-bounded s.side 8 (4 * (D * s.divisor)) (squares (rounding z))
          (λ y x i j. let m = inverse_re s (recipe_re s t z) (recipe_im s t z) y x in rounding-bound D s.divisor m (correction_at s t.noise (t.differences z) y x) (away-rounds m s.divisor s.divisor_above))

      bin-errors : (z : ℕ) → z < others → Length s.side (gain * (s.side * (17 * D))) 8 (squares (bin_errors z))
      bin-errors z l =
          back-length g (mixed (pos s.parts) (pos D) (whole_re s t z D) (recipe_re s t z)) (mixed (pos s.parts) (pos D) (whole_im s t z D) (recipe_im s t z))
          (length-bounded s.side 8 (17 * D) _
          (λ u v i j.
          let bin : (b c : ℤ) → Near 3 2 (filtered s t.noise b c) (pos s.parts) (exact_filtered s t.noise b c) = bin-near s s.quantum_above f.scale_is t.noise in
          parts-bound D (pos s.parts) (recipe_re s t z u v) (whole_re s t z D u v) (recipe_im s t z u v) (whole_im s t z D u v)
          (cleared (whole_same z l u v i j).0 (bin (bin_re s (t.differences z) u v) (bin_im s (t.differences z) u v)))
          (cleared (whole_same z l u v i j).1 (bin (bin_im s (t.differences z) u v) (bin_re s (t.differences z) u v)))))

      -- in 1/8
      pub copy-length : Length s.side (s.side * (4 * (D * s.divisor * suc others)) + others * (s.side * (4 * (D * s.divisor)) + gain * (s.side * (17 * D)))) 8 (squares copy_error)
      copy-length =
          length-cong _ (squares copy_error) (λ y x i j. ap (λ z. z *ℤ z) (error-is y x))
          (length-sums others copy_rounding (λ z. minus (rounding z) (bin_errors z)) above-copy (omega (arith, above-bins)) copy-rounding
          (λ z l. length-sub (rounding z) (bin_errors z) above-rounding above-bins (correction-rounding z) (bin-errors z l)))
        where
          above-rounding : 0 < s.side * (4 * (D * s.divisor))
          above-rounding = mul-pos s.side_above (mul-pos {m = 4} (lit< tt) (mul-pos D-above s.divisor_above))

          above-copy : 0 < s.side * (4 * (D * s.divisor * suc others))
          above-copy = mul-pos s.side_above (mul-pos {m = 4} (lit< tt) (mul-pos (mul-pos D-above s.divisor_above) (omega arith)))

          above-bins : 0 < gain * (s.side * (17 * D))
          above-bins = mul-pos g-above (mul-pos s.side_above (mul-pos {m = 17} (lit< tt) D-above))
