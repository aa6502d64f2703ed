-- Numbers of a line as the code holds them.
use Rattle.tile_spectrum.specs.Lines.Prelude.{refl, ap, ap₂, ◌∙◌, List, [], T, ltb, get_or, ℤ, pos, nat_abs, Width, to_z, of_z, hbits, tab}
use Rattle.std.specs.Prelude.{ℕ, zero, suc, ◌^◌, ◌≤◌, ◌≡◌, ◌∷◌}
use Rattle.std.proofs.Common.{zero-le}
use Rattle.tile_spectrum.specs.Lines.Lines.{LineMost}
use Rattle.tile_spectrum.specs.Lines.Held.{held-is}

-- some numbers of a line, and the same as the code holds them
abbrev pub picked : List ℤ → List ℕ → List ℤ
picked z [] = []
picked z (k ∷ ks) = get_or z k (pos 0) ∷ picked z ks

abbrev pub held : Width → List ℤ → List ℕ → List ℤ
held w z [] = []
held w z (k ∷ ks) = to_z w (of_z w (get_or z k (pos 0))) ∷ held w z ks

module _ (w : Width) {b : ℕ} {z : List ℤ} (m : LineMost b z) (t : T (ltb b (2 ^ hbits w))) where
  all_held : (ks : List ℕ) → held w z ks ≡ picked z ks
  all_held [] = refl
  all_held (k ∷ ks) = ap₂ ◌∷◌ (held-is w m k t) (all_held ks)

  picked-most : (ks : List ℕ) (i : ℕ) → nat_abs (get_or (picked z ks) i (pos 0)) ≤ b
  picked-most [] i = zero-le
  picked-most (k ∷ ks) zero = m.at k
  picked-most (k ∷ ks) (suc i) = picked-most ks i

  pub all-most : (ks : List ℕ) → LineMost b (held w z ks)
  all-most ks = rw (all_held ks) (record { at = picked-most ks })

-- eight numbers
abbrev pub eight : List ℕ
eight = 0 ∷ 1 ∷ 2 ∷ 3 ∷ 4 ∷ 5 ∷ 6 ∷ 7 ∷ []

pub eight-picked : (f : ℕ → ℤ) → picked (tab 8 f) eight ≡ tab 8 f
unfolding tab
eight-picked f = refl

-- all n numbers of a line
pub held-tab : (w : Width) {b : ℕ} (n : ℕ) {z : List ℤ} (f : ℕ → ℤ) (ks : List ℕ) → picked (tab n f) ks ≡ tab n f → LineMost b z → T (ltb b (2 ^ hbits w)) → z ≡ tab n f → held w z ks ≡ tab n f
held-tab w n f ks p m t e = all_held w m t ks ∙ ap (λ z. picked z ks) e ∙ p
