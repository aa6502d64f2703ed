-- How large B and Q are by the sum of the magnitudes of a tile's differences, for any side whose factors are as small as `Factors` asks.
use Rattle.std.specs.Prelude.{◌≡◌, ◌∷◌, ◌*◌, ◌%◌, ◌≤◌, ◌<◌, ◌+ℤ◌, ◌-ℤ◌, ◌*ℤ◌}
use Rattle.tile_spectrum.specs.Prelude.{sym, ap₂, ◌∙◌, [], ℕ, arith, T, leb, lit<, ℤ, nat_abs, neg_ℤ, vars5, ◌⊞◌, ◌⊟◌, ◌⊠◌, ⊖◌, ring, sum_z, sum_n, Side, cos_at, sin_at, cosines32, cosine32, sine32, side32, row_re, row_im, bin_re, bin_im, quantized, difference_most}
use Rattle.std.proofs.Common.{le_refl, le_trans, mod-lt, leb→le}
use Rattle.algebra.specs.Order.{abs-mul-le}
use Rattle.algebra.specs.Test.{all, all_sound}
use Rattle.algebra.specs.SumLaws.{sum_z-cong, sum_z-scaler, sum_z-add, sum_z-sub, sum_n-mono, sum_n-scale, sum_n-bound, abs-sum}
use Rattle.tile_spectrum.specs.RoundingLaws.{away-within}

-- the sum of the magnitudes of n by n differences
abbrev pub distance_of : Side → (d : ℕ → ℕ → ℤ) → ℕ
distance_of s d = sum_n s.side (λ y. sum_n s.side (λ x. nat_abs (d y x)))

-- a factor of a difference in a part of B: 15137² + 6270², of either side's tables
abbrev pub factor_most : ℕ
factor_most = 268441669

-- |C(j)·C(k) − S(j)·S(k)| and |C(j)·S(k) + S(j)·C(k)|, whatever the indices
pub record Factors (s : Side) : Type 0 where
  pub re_factor : (j k : ℕ) → nat_abs (cos_at s j *ℤ cos_at s k -ℤ sin_at s j *ℤ sin_at s k) ≤ factor_most
  pub im_factor : (j k : ℕ) → nat_abs (cos_at s j *ℤ neg_ℤ (sin_at s k) +ℤ neg_ℤ (sin_at s j) *ℤ cos_at s k) ≤ factor_most

-- by one computed test over the pairs of entries
small : (n : ℕ) (f : ℕ → ℕ → ℕ) → 0 < n → T (all n (λ j. all n (λ k. leb (f j k) factor_most))) → (j k : ℕ) → f (j % n) (k % n) ≤ factor_most
small n f above t j k =
    leb→le (f (j % n) (k % n)) factor_most
    (all_sound n (λ k. leb (f (j % n) k) factor_most) (all_sound n (λ j. all n (λ k. leb (f j k) factor_most)) t (j % n) (mod-lt j above)) (k % n) (mod-lt k above))

pub factors32 : Factors side32
unfolding cos_at sin_at side32 sine32 cosine32 cosines32
factors32 =
    record {
      re_factor = small 32 (λ j k. nat_abs (cosine32 j *ℤ cosine32 k -ℤ sine32 j *ℤ sine32 k)) (lit< tt) tt;
      im_factor = small 32 (λ j k. nat_abs (cosine32 j *ℤ neg_ℤ (sine32 k) +ℤ neg_ℤ (sine32 j) *ℤ cosine32 k)) (lit< tt) tt;
    }

module _ {s : Side} (f : Factors s) (d : ℕ → ℕ → ℤ) where
  -- the differences, each times a factor of at most m
  weighed-most : (m : ℕ) (w : ℕ → ℕ → ℤ) → ((y x : ℕ) → nat_abs (w y x) ≤ m) → nat_abs (sum_z s.side (λ y. sum_z s.side (λ x. d y x *ℤ w y x))) ≤ m * distance_of s d
  weighed-most m w h =
      le_trans (abs-sum s.side _)
      (le_trans (sum_n-mono s.side _ (λ y. m * sum_n s.side (λ x. nat_abs (d y x))) (λ y i. row y))
      (omega (arith, sum_n-scale s.side m (λ y. sum_n s.side (λ x. nat_abs (d y x))))))
    where
      row : (y : ℕ) → nat_abs (sum_z s.side (λ x. d y x *ℤ w y x)) ≤ m * sum_n s.side (λ x. nat_abs (d y x))
      row y =
          le_trans (abs-sum s.side _)
          (le_trans (sum_n-mono s.side _ (λ x. m * nat_abs (d y x)) (λ x i. omega (arith, abs-mul-le (d y x) (w y x) (le_refl (nat_abs (d y x))) (h y x))))
          (omega (arith, sum_n-scale s.side m (λ x. nat_abs (d y x)))))

  module _ (u v : ℕ) where
    abbrev C : ℕ → ℤ
    C = cos_at s

    abbrev S : ℕ → ℤ
    S = sin_at s

    re-is : bin_re s d u v ≡ sum_z s.side (λ y. sum_z s.side (λ x. d y x *ℤ (C (v * x) *ℤ C (u * y) -ℤ S (v * x) *ℤ S (u * y))))
    unfolding bin_re row_re row_im
    re-is =
        sum_z-cong s.side _ _ (λ y i. sym (sum_z-cong s.side _ _ (λ x k. let (D, E, F, G, H) = vars5 in
        ring (d y x ∷ C (v * x) ∷ S (v * x) ∷ C (u * y) ∷ S (u * y) ∷ []) (D ⊠ (E ⊠ G ⊟ F ⊠ H)) (D ⊠ E ⊠ G ⊟ D ⊠ ⊖ F ⊠ ⊖ H) tt)
        ∙ sum_z-sub s.side (λ x. d y x *ℤ C (v * x) *ℤ C (u * y)) (λ x. d y x *ℤ neg_ℤ (S (v * x)) *ℤ neg_ℤ (S (u * y)))
        ∙ ap₂ ◌-ℤ◌ (sum_z-scaler s.side (C (u * y)) (λ x. d y x *ℤ C (v * x))) (sum_z-scaler s.side (neg_ℤ (S (u * y))) (λ x. d y x *ℤ neg_ℤ (S (v * x))))))

    im-is : bin_im s d u v ≡ sum_z s.side (λ y. sum_z s.side (λ x. d y x *ℤ (C (v * x) *ℤ neg_ℤ (S (u * y)) +ℤ neg_ℤ (S (v * x)) *ℤ C (u * y))))
    unfolding bin_im row_re row_im
    im-is =
        sum_z-cong s.side _ _ (λ y i. sym (sum_z-cong s.side _ _ (λ x k. let (D, E, F, G, H) = vars5 in
        ring (d y x ∷ C (v * x) ∷ S (v * x) ∷ C (u * y) ∷ S (u * y) ∷ []) (D ⊠ (E ⊠ ⊖ H ⊞ ⊖ F ⊠ G)) (D ⊠ E ⊠ ⊖ H ⊞ D ⊠ ⊖ F ⊠ G) tt)
        ∙ sum_z-add s.side (λ x. d y x *ℤ C (v * x) *ℤ neg_ℤ (S (u * y))) (λ x. d y x *ℤ neg_ℤ (S (v * x)) *ℤ C (u * y))
        ∙ ap₂ ◌+ℤ◌ (sum_z-scaler s.side (neg_ℤ (S (u * y))) (λ x. d y x *ℤ C (v * x))) (sum_z-scaler s.side (C (u * y)) (λ x. d y x *ℤ neg_ℤ (S (v * x))))))

    -- a part of B
    pub re-far : nat_abs (bin_re s d u v) ≤ factor_most * distance_of s d
    re-far = rw re-is (weighed-most factor_most _ (λ y x. f.re_factor (v * x) (u * y)))

    pub im-far : nat_abs (bin_im s d u v) ≤ factor_most * distance_of s d
    im-far = rw im-is (weighed-most factor_most _ (λ y x. f.im_factor (v * x) (u * y)))

-- a part of Q
pub part-within : (s : Side) (n : ℕ) (b : ℤ) → nat_abs b ≤ n * s.quantum → nat_abs (quantized s b) ≤ n
unfolding quantized
part-within s n b h = away-within b s.quantum n s.quantum_above h

pub distance-within : (s : Side) (d : ℕ → ℕ → ℤ) → ((y x : ℕ) → nat_abs (d y x) ≤ difference_most) → distance_of s d ≤ s.side * (s.side * difference_most)
distance-within s d m =
    sum_n-bound s.side (s.side * difference_most) _ (λ y i. sum_n-bound s.side difference_most _ (λ x k. m y x))
