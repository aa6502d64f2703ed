-- Twice the least sum is the two ends' sum less the width, and twice the greatest is that and the width.
use Rattle.std.specs.Prelude.{◌≡◌, ◌∷◌, ◌+◌, ◌*◌, ◌<◌, ◌+ℤ◌, ◌-ℤ◌, ◌*ℤ◌, ◌≤ℤ◌}
use Rattle.range_pair.specs.Prelude.{sym, ap, ap₂, ◌∙◌, [], ℕ, zero, suc, arith, ℤ, pos, negsuc, nat_abs, ◌⊞◌, ◌⊟◌, ◌⊠◌, ⊖◌, #◌, var, ring, sum_z, sum_n, min_z, max_z, Side, bin_re, bin_im, filtered, twiddle_re, twiddle_im, inverse_re, end_re}
use Rattle.std.proofs.Common.{le_refl}
use Rattle.algebra.specs.Order.{zarith, sub-pn, abs-pn, min-pn, abs-nonneg, abs-mul}
use Rattle.algebra.specs.ClampLaws.{min_cases, max_cases}
use Rattle.range_pair.specs.Widths.{both_re, width_at}

-- ---- of two numbers; σ is 1 or −1

-- twice what is picked of a and b
pub record Picks (σ : ℤ) (pick : ℤ → ℤ → ℤ) : Type 0 where
  pub twice : (a b : ℤ) → pos 2 *ℤ pick a b ≡ a +ℤ b +ℤ σ *ℤ pos (nat_abs (a -ℤ b))

apart-is : (a b : ℤ) → b ≤ℤ a → pos (nat_abs (a -ℤ b)) ≡ a -ℤ b
apart-is a b h = abs-nonneg (a -ℤ b) (omega (zarith, sub-pn a b))

apart-back : (a b : ℤ) → a ≤ℤ b → pos (nat_abs (a -ℤ b)) ≡ b -ℤ a
apart-back a b h = omega (zarith, sub-pn a b, sub-pn b a, abs-pn (a -ℤ b), min-pn (a -ℤ b))

pub min-picks : Picks (negsuc 0) min_z
min-picks =
    record {
      twice = λ a b.
          min_cases a b (λ m. pos 2 *ℤ m ≡ a +ℤ b +ℤ negsuc 0 *ℤ pos (nat_abs (a -ℤ b)))
          (λ h. ring (a ∷ b ∷ []) (# 2 ⊠ var 1) (var 0 ⊞ var 1 ⊞ ⊖ # 1 ⊠ (var 0 ⊟ var 1)) tt ∙ ap (λ z. a +ℤ b +ℤ negsuc 0 *ℤ z) (sym (apart-is a b h)))
          (λ h. ring (a ∷ b ∷ []) (# 2 ⊠ var 0) (var 0 ⊞ var 1 ⊞ ⊖ # 1 ⊠ (var 1 ⊟ var 0)) tt ∙ ap (λ z. a +ℤ b +ℤ negsuc 0 *ℤ z) (sym (apart-back a b h)));
    }

pub max-picks : Picks (pos 1) max_z
max-picks =
    record {
      twice = λ a b.
          max_cases a b (λ m. pos 2 *ℤ m ≡ a +ℤ b +ℤ pos 1 *ℤ pos (nat_abs (a -ℤ b)))
          (λ h. ring (a ∷ b ∷ []) (# 2 ⊠ var 1) (var 0 ⊞ var 1 ⊞ # 1 ⊠ (var 1 ⊟ var 0)) tt ∙ ap (λ z. a +ℤ b +ℤ pos 1 *ℤ z) (sym (apart-back a b h)))
          (λ h. ring (a ∷ b ∷ []) (# 2 ⊠ var 0) (var 0 ⊞ var 1 ⊞ # 1 ⊠ (var 0 ⊟ var 1)) tt ∙ ap (λ z. a +ℤ b +ℤ pos 1 *ℤ z) (sym (apart-is a b h)));
    }

-- ---- sums

halves-sum : (σ : ℤ) (n : ℕ) (f g : ℕ → ℤ) (w : ℕ → ℕ) → ((i : ℕ) → i < n → pos 2 *ℤ f i ≡ g i +ℤ σ *ℤ pos (w i)) → pos 2 *ℤ sum_z n f ≡ sum_z n g +ℤ σ *ℤ pos (sum_n n w)
unfolding sum_z sum_n
halves-sum σ zero f g w h = ring (σ ∷ []) (# 2 ⊠ # 0) (# 0 ⊞ var 0 ⊠ # 0) tt
halves-sum σ (suc n) f g w h =
    ring (sum_z n f ∷ f n ∷ []) (# 2 ⊠ (var 0 ⊞ var 1)) (# 2 ⊠ var 0 ⊞ # 2 ⊠ var 1) tt
    ∙ ap₂ ◌+ℤ◌ (halves-sum σ n f g w (λ i k. h i (omega arith))) (h n (le_refl (suc n)))
    ∙ ring (σ ∷ sum_z n g ∷ g n ∷ pos (sum_n n w) ∷ pos (w n) ∷ []) (var 1 ⊞ var 0 ⊠ var 3 ⊞ (var 2 ⊞ var 0 ⊠ var 4)) (var 1 ⊞ var 2 ⊞ var 0 ⊠ (var 3 ⊞ var 4)) tt

-- ---- one bin: the factor t + i·u, and G's parts at both ends

times-apart : (k a b : ℤ) → nat_abs (k *ℤ a -ℤ k *ℤ b) ≡ nat_abs k * nat_abs (a -ℤ b)
times-apart k a b = ap nat_abs (ring (k ∷ a ∷ b ∷ []) (var 0 ⊠ var 1 ⊟ var 0 ⊠ var 2) (var 0 ⊠ (var 1 ⊟ var 2)) tt) ∙ abs-mul k (a -ℤ b)

module _ (σ : ℤ) {added taken : ℤ → ℤ → ℤ} (p : Picks σ added) (q : Picks (negsuc 0 *ℤ σ) taken) (t u g g' h h' : ℤ) where
  bin-halves :
      pos 2 *ℤ (added (t *ℤ g) (t *ℤ g') -ℤ taken (u *ℤ h) (u *ℤ h'))
      ≡ (t *ℤ (g +ℤ g') -ℤ u *ℤ (h +ℤ h')) +ℤ σ *ℤ pos (nat_abs t * nat_abs (g -ℤ g') + nat_abs u * nat_abs (h -ℤ h'))
  bin-halves =
      ring (added (t *ℤ g) (t *ℤ g') ∷ taken (u *ℤ h) (u *ℤ h') ∷ []) (# 2 ⊠ (var 0 ⊟ var 1)) (# 2 ⊠ var 0 ⊟ # 2 ⊠ var 1) tt
      ∙ ap₂ ◌-ℤ◌ (p.twice (t *ℤ g) (t *ℤ g')) (q.twice (u *ℤ h) (u *ℤ h'))
      ∙ ap₂ (λ m n. (t *ℤ g +ℤ t *ℤ g' +ℤ σ *ℤ pos m) -ℤ (u *ℤ h +ℤ u *ℤ h' +ℤ negsuc 0 *ℤ σ *ℤ pos n)) (times-apart t g g') (times-apart u h h')
      ∙ ring (σ ∷ t ∷ u ∷ g ∷ g' ∷ h ∷ h' ∷ pos (nat_abs t * nat_abs (g -ℤ g')) ∷ pos (nat_abs u * nat_abs (h -ℤ h')) ∷ [])
      ((var 1 ⊠ var 3 ⊞ var 1 ⊠ var 4 ⊞ var 0 ⊠ var 7) ⊟ (var 2 ⊠ var 5 ⊞ var 2 ⊠ var 6 ⊞ ⊖ # 1 ⊠ var 0 ⊠ var 8))
      ((var 1 ⊠ (var 3 ⊞ var 4) ⊟ var 2 ⊠ (var 5 ⊞ var 6)) ⊞ var 0 ⊠ (var 7 ⊞ var 8)) tt

-- ---- one pixel

module _ (s : Side) (d : ℕ → ℕ → ℤ) where
  -- one part of G at a noise number
  abbrev pub part_re : ℕ → ℕ → ℕ → ℤ
  part_re noise u v = filtered s noise (bin_re s d u v) (bin_im s d u v)

  abbrev pub part_im : ℕ → ℕ → ℕ → ℤ
  part_im noise u v = filtered s noise (bin_im s d u v) (bin_re s d u v)

  pub end-halves : (σ : ℤ) {added taken : ℤ → ℤ → ℤ} → Picks σ added → Picks (negsuc 0 *ℤ σ) taken → (lower upper y x : ℕ) → pos 2 *ℤ end_re s added taken lower upper d y x ≡ both_re s (part_re lower) (part_im lower) (part_re upper) (part_im upper) y x +ℤ σ *ℤ pos (width_at s (part_re lower) (part_im lower) (part_re upper) (part_im upper) y x)
  unfolding end_re both_re width_at inverse_re
  end-halves σ p q lower upper y x =
      halves-sum σ s.side _ _ _ (λ u i. halves-sum σ s.side _ _ _ (λ v j. bin-halves σ p q (twiddle_re s y x u v) (twiddle_im s y x u v) (part_re lower u v) (part_re upper u v) (part_im lower u v) (part_im upper u v)))
