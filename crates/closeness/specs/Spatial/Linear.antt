-- The two-way transform and its inverse are linear.
use Rattle.std.specs.Prelude.{◌≡◌, ◌∷◌, ◌*◌, ◌+ℤ◌, ◌-ℤ◌, ◌*ℤ◌}
use Rattle.closeness.specs.Spatial.Prelude.{◌∙◌, ap₂, [], ℕ, ℤ, neg_ℤ, vars5, vars8, ◌⊞◌, ◌⊟◌, ◌⊠◌, ring, sum_z, Side, cos_at, sin_at, row_re, row_im, bin_re, bin_im, twiddle_re, twiddle_im, inverse_re}
use Rattle.algebra.specs.SumLaws.{sum_z-cong, sum_z-scale, sum_z-sub}

pub sum-linear : (n : ℕ) (k l : ℤ) (e f g : ℕ → ℤ) → ((i : ℕ) → e i ≡ k *ℤ f i -ℤ l *ℤ g i) → sum_z n e ≡ k *ℤ sum_z n f -ℤ l *ℤ sum_z n g
sum-linear n k l e f g h =
    sum_z-cong n _ _ (λ i j. h i) ∙ sum_z-sub n (λ i. k *ℤ f i) (λ i. l *ℤ g i) ∙ ap₂ ◌-ℤ◌ (sum_z-scale n k f) (sum_z-scale n l g)

-- k·f − l·g
abbrev pub mixed : (k l : ℤ) (f g : ℕ → ℕ → ℤ) → ℕ → ℕ → ℤ
mixed k l f g y x = k *ℤ f y x -ℤ l *ℤ g y x

module _ (s : Side) (k l : ℤ) where
  pub inverse-linear : (g h g' h' : ℕ → ℕ → ℤ) (y x : ℕ) → inverse_re s (mixed k l g g') (mixed k l h h') y x ≡ k *ℤ inverse_re s g h y x -ℤ l *ℤ inverse_re s g' h' y x
  unfolding inverse_re
  inverse-linear g h g' h' y x =
      sum-linear s.side k l _ _ _
      (λ u. sum-linear s.side k l _ _ _
      (λ v. let (K, L, A, B, G, H, G', H') = vars8 in
      ring (k ∷ l ∷ twiddle_re s y x u v ∷ twiddle_im s y x u v ∷ g u v ∷ h u v ∷ g' u v ∷ h' u v ∷ [])
      (A ⊠ (K ⊠ G ⊟ L ⊠ G') ⊟ B ⊠ (K ⊠ H ⊟ L ⊠ H')) (K ⊠ (A ⊠ G ⊟ B ⊠ H) ⊟ L ⊠ (A ⊠ G' ⊟ B ⊠ H')) tt))

  module _ (f g : ℕ → ℕ → ℤ) where
    line : (c a b : ℤ) → (k *ℤ a -ℤ l *ℤ b) *ℤ c ≡ k *ℤ (a *ℤ c) -ℤ l *ℤ (b *ℤ c)
    line c a b = let (K, L, C, A, B) = vars5 in ring (k ∷ l ∷ c ∷ a ∷ b ∷ []) ((K ⊠ A ⊟ L ⊠ B) ⊠ C) (K ⊠ (A ⊠ C) ⊟ L ⊠ (B ⊠ C)) tt

    row-re : (y v : ℕ) → row_re s (mixed k l f g) y v ≡ k *ℤ row_re s f y v -ℤ l *ℤ row_re s g y v
    unfolding row_re
    row-re y v = sum-linear s.side k l _ _ _ (λ x. line (cos_at s (v * x)) (f y x) (g y x))

    row-im : (y v : ℕ) → row_im s (mixed k l f g) y v ≡ k *ℤ row_im s f y v -ℤ l *ℤ row_im s g y v
    unfolding row_im
    row-im y v = sum-linear s.side k l _ _ _ (λ x. line (neg_ℤ (sin_at s (v * x))) (f y x) (g y x))

    pub bin-re-linear : (u v : ℕ) → bin_re s (mixed k l f g) u v ≡ k *ℤ bin_re s f u v -ℤ l *ℤ bin_re s g u v
    unfolding bin_re
    bin-re-linear u v =
        sum-linear s.side k l _ _ _
        (λ y. let (K, L, C, S, A, B, A', B') = vars8 in
        let c = cos_at s (u * y) in
        let t = neg_ℤ (sin_at s (u * y)) in
        ap₂ (λ p q. p *ℤ c -ℤ q *ℤ t) (row-re y v) (row-im y v)
        ∙ ring (k ∷ l ∷ c ∷ t ∷ row_re s f y v ∷ row_im s f y v ∷ row_re s g y v ∷ row_im s g y v ∷ [])
        ((K ⊠ A ⊟ L ⊠ A') ⊠ C ⊟ (K ⊠ B ⊟ L ⊠ B') ⊠ S) (K ⊠ (A ⊠ C ⊟ B ⊠ S) ⊟ L ⊠ (A' ⊠ C ⊟ B' ⊠ S)) tt)

    pub bin-im-linear : (u v : ℕ) → bin_im s (mixed k l f g) u v ≡ k *ℤ bin_im s f u v -ℤ l *ℤ bin_im s g u v
    unfolding bin_im
    bin-im-linear u v =
        sum-linear s.side k l _ _ _
        (λ y. let (K, L, C, S, A, B, A', B') = vars8 in
        let c = cos_at s (u * y) in
        let t = neg_ℤ (sin_at s (u * y)) in
        ap₂ (λ p q. p *ℤ t +ℤ q *ℤ c) (row-re y v) (row-im y v)
        ∙ ring (k ∷ l ∷ c ∷ t ∷ row_re s f y v ∷ row_im s f y v ∷ row_re s g y v ∷ row_im s g y v ∷ [])
        ((K ⊠ A ⊟ L ⊠ A') ⊠ S ⊞ (K ⊠ B ⊟ L ⊠ B') ⊠ C) (K ⊠ (A ⊠ S ⊞ B ⊠ C) ⊟ L ⊠ (A' ⊠ S ⊞ B' ⊠ C)) tt)
