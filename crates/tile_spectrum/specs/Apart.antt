-- Numbers 0 and n/2 of a line apart from the others.
use Rattle.std.specs.Prelude.{◌≡◌, ◌%◌, ◌≤◌, ◌<◌}
use Rattle.tile_spectrum.specs.Prelude.{refl, Bool, true, false, cond, ℕ, eqb, ltb, Side, side16}
use Rattle.std.proofs.Common.{eq-eqb, ne_eqb, ltb-true, ltb-false}
use Rattle.std.proofs.lemmas.Bool.{eqb-false}
use Rattle.tile_spectrum.specs.Spectrum.{apart, apart_of}

-- what holds of either
pub cond_cases : {A : Type 0} (P : A → Type 0) (b : Bool) {x y : A} → P x → P y → P (cond b x y)
cond_cases P true p q = p
cond_cases P false p q = q

module _ (s : Side) {A : Type 0} (k : ℕ) (own paired : A) where
  pub side-own : k % s.half ≡ 0 → apart_of s k own paired ≡ own
  unfolding apart_of
  side-own h = rw (eq-eqb (k % s.half) 0 h)

  pub side-paired : (k % s.half ≡ 0 → ⊥) → apart_of s k own paired ≡ paired
  unfolding apart_of
  side-paired h = rw (ne_eqb (k % s.half) 0 h)

  pub side-cases : (P : A → Type 0) → P own → P paired → P (apart_of s k own paired)
  unfolding apart_of
  side-cases P p q = cond_cases P (eqb (k % s.half) 0) p q

module _ {A : Type 0} (k : ℕ) (own paired : A) where
  pub is-own : k % 8 ≡ 0 → apart k own paired ≡ own
  unfolding side16
  is-own = side-own side16 k own paired

  pub is-paired : (k % 8 ≡ 0 → ⊥) → apart k own paired ≡ paired
  unfolding side16
  is-paired = side-paired side16 k own paired

  pub apart-cases : (P : A → Type 0) → P own → P paired → P (apart k own paired)
  unfolding apart_of side16
  apart-cases P p q = cond_cases P (eqb (k % 8) 0) p q

-- what is the same in both cases
cond-ext : {A : Type 0} (b : Bool) (x y x' y' : A) → (b ≡ true → x ≡ x') → (b ≡ false → y ≡ y') → cond b x y ≡ cond b x' y'
cond-ext true x y x' y' p q = p refl
cond-ext false x y x' y' p q = q refl

pub below-ext : {A : Type 0} (k n : ℕ) (x y x' y' : A) → (k < n → x ≡ x') → (n ≤ k → y ≡ y') → cond (ltb k n) x y ≡ cond (ltb k n) x' y'
below-ext k n x y x' y' p q = cond-ext (ltb k n) x y x' y' (λ e. p (ltb-true k n e)) (λ e. q (ltb-false k n e))

pub side-ext : (s : Side) {A : Type 0} (k : ℕ) (x y x' y' : A) → x ≡ x' → ((k % s.half ≡ 0 → ⊥) → y ≡ y') → apart_of s k x y ≡ apart_of s k x' y'
unfolding apart_of
side-ext s k x y x' y' p q = cond-ext (eqb (k % s.half) 0) x y x' y' (λ e. p) (λ e. q (eqb-false (k % s.half) 0 e))
