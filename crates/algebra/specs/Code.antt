-- Straight-line signed code, by reflection: that no operation overflows, and what the code computes.
-- The borrow checker shows a signed value as the bits read back, `to_z w (of_z w z)`, at every step. `val c` is that term for the code `c`,
-- `raw c` the same without the outermost `to_z w (of_z w ·)`, which is what a need asks to fit, and `den c` what it means.
-- From bounds of the variables' absolute values, `bnd c` is a bound of `den c`, and the test `ok c` says that each step fits its width.
use Rattle.algebra.specs.Prelude.{refl, sym, ap, ap₂, subst, ◌∙◌, Bool, true, List, [], arith, T, ltb, ℤ, pos, negsuc, nat_abs, to_z-of_z}
use Rattle.std.specs.Prelude.{ℕ, zero, suc, ◌+◌, ◌*◌, ◌/◌, ◌^◌, ◌≤◌, ◌≡◌, ◌∷◌, ◌+ℤ◌, ◌-ℤ◌, ◌*ℤ◌}
use Rattle.std.proofs.Common.{zero-le, le_refl, le_trans, add-le-add, le-div_iff_mul-le, div-mul-le_self, zero-lt-suc}
use Rattle.std.proofs.Math.Nat.{div-zero}
use Rattle.std.specs.Int.Signed.{shr_z}
use Rattle.std.specs.Int.{Width}
use mir.Val.{SFits, to_z, of_z, hbits}
use Rattle.algebra.specs.Ring.{nth}
use Rattle.algebra.specs.Test.{both, both_l, both_r}
use Rattle.algebra.specs.Order.{abs-add, abs-sub, abs-mul-le}
use Rattle.algebra.specs.Fit.{sfits-abs}

pub data Code (ρ : ℕ → ℤ) : Type 0 where
  -- a parameter of a width that it fits; a value that stands as it is (as a loop's local); a literal
  par : (w : Width) (i : ℕ) → SFits w (ρ i) → Code ρ
  loc : ℕ → Code ρ
  lit : ℤ → Code ρ
  -- an operation at a width; `shr w a m` is `a >> s` with m ≡ 2 ^ s; `to w a` is `a as ..`
  add : Width → Code ρ → Code ρ → Code ρ
  sub : Width → Code ρ → Code ρ → Code ρ
  mul : Width → Code ρ → Code ρ → Code ρ
  shr : Width → Code ρ → ℕ → Code ρ
  to : Width → Code ρ → Code ρ

abbrev pub val : {ρ : ℕ → ℤ} → Code ρ → ℤ
val {ρ} (par w i h) = to_z w (of_z w (ρ i))
val {ρ} (loc i) = ρ i
val (lit c) = c
val (add w a b) = to_z w (of_z w (val a +ℤ val b))
val (sub w a b) = to_z w (of_z w (val a -ℤ val b))
val (mul w a b) = to_z w (of_z w (val a *ℤ val b))
val (shr w a m) = to_z w (of_z w (shr_z (val a) m))
val (to w a) = to_z w (of_z w (val a))

abbrev pub raw : {ρ : ℕ → ℤ} → Code ρ → ℤ
raw {ρ} (par w i h) = ρ i
raw {ρ} (loc i) = ρ i
raw (lit c) = c
raw (add w a b) = val a +ℤ val b
raw (sub w a b) = val a -ℤ val b
raw (mul w a b) = val a *ℤ val b
raw (shr w a m) = shr_z (val a) m
raw (to w a) = val a

abbrev pub den : {ρ : ℕ → ℤ} → Code ρ → ℤ
den {ρ} (par w i h) = ρ i
den {ρ} (loc i) = ρ i
den (lit c) = c
den (add w a b) = den a +ℤ den b
den (sub w a b) = den a -ℤ den b
den (mul w a b) = den a *ℤ den b
den (shr w a m) = shr_z (den a) m
den (to w a) = den a

abbrev pub bnd : {ρ : ℕ → ℤ} → Code ρ → (ℕ → ℕ) → ℕ
bnd (par w i h) β = β i
bnd (loc i) β = β i
bnd (lit c) β = nat_abs c
bnd (add w a b) β = bnd a β + bnd b β
bnd (sub w a b) β = bnd a β + bnd b β
bnd (mul w a b) β = bnd a β * bnd b β
bnd (shr w a m) β = suc (bnd a β / m)
bnd (to w a) β = bnd a β

-- every step fits
abbrev pub ok : {ρ : ℕ → ℤ} → Code ρ → (ℕ → ℕ) → Bool
ok (par w i h) β = true
ok (loc i) β = true
ok (lit c) β = true
ok (add w a b) β = both (both (ok a β) (ok b β)) (ltb (bnd a β + bnd b β) (2 ^ hbits w))
ok (sub w a b) β = both (both (ok a β) (ok b β)) (ltb (bnd a β + bnd b β) (2 ^ hbits w))
ok (mul w a b) β = both (both (ok a β) (ok b β)) (ltb (bnd a β * bnd b β) (2 ^ hbits w))
ok (shr w a m) β = both (ok a β) (ltb (suc (bnd a β / m)) (2 ^ hbits w))
ok (to w a) β = both (ok a β) (ltb (bnd a β) (2 ^ hbits w))

-- ---- the variables and their bounds

abbrev pub nth_n : List ℕ → ℕ → ℕ
nth_n [] i = 0
nth_n (x ∷ xs) zero = x
nth_n (x ∷ xs) (suc i) = nth_n xs i

abbrev pub Bounded : List ℤ → List ℕ → Type 0
Bounded [] bs = Unit {0}
Bounded (x ∷ xs) [] = (nat_abs x ≤ 0) × Bounded xs []
Bounded (x ∷ xs) (b ∷ bs) = (nat_abs x ≤ b) × Bounded xs bs

pub bounded : (xs : List ℤ) (bs : List ℕ) → Bounded xs bs → (i : ℕ) → nat_abs (nth xs i) ≤ nth_n bs i
bounded [] bs h i = zero-le
bounded (x ∷ xs) [] h zero = h.0
bounded (x ∷ xs) [] h (suc i) = bounded xs [] h.1 i
bounded (x ∷ xs) (b ∷ bs) h zero = h.0
bounded (x ∷ xs) (b ∷ bs) h (suc i) = bounded xs bs h.1 i

-- ---- soundness

div_mono : (a b m : ℕ) → a ≤ b → a / m ≤ b / m
div_mono a b zero h = rw (div-zero a, div-zero b) zero-le
div_mono a b (suc m) h = (le-div_iff_mul-le {k = suc m} {x = a / suc m} {y = b} (zero-lt-suc m)).1 (le_trans (div-mul-le_self a (suc m)) h)

abs-shr : (z : ℤ) (m b : ℕ) → nat_abs z ≤ b → nat_abs (shr_z z m) ≤ suc (b / m)
abs-shr (pos a) m b h = omega (arith, div_mono a b m h)
abs-shr (negsuc a) m b h = omega (arith, div_mono a b m (omega arith))

module _ (xs : List ℤ) (bs : List ℕ) (h : Bounded xs bs) where
  pub bnd-sound : (c : Code (nth xs)) → nat_abs (den c) ≤ bnd c (nth_n bs)
  bnd-sound (par w i k) = bounded xs bs h i
  bnd-sound (loc i) = bounded xs bs h i
  bnd-sound (lit c) = le_refl (nat_abs c)
  bnd-sound (add w a b) = le_trans (abs-add (den a) (den b)) (add-le-add (bnd-sound a) (bnd-sound b))
  bnd-sound (sub w a b) = le_trans (abs-sub (den a) (den b)) (add-le-add (bnd-sound a) (bnd-sound b))
  bnd-sound (mul w a b) = abs-mul-le (den a) (den b) (bnd-sound a) (bnd-sound b)
  bnd-sound (shr w a m) = abs-shr (den a) m (bnd a (nth_n bs)) (bnd-sound a)
  bnd-sound (to w a) = bnd-sound a

  back : (w : Width) (z y : ℤ) (K : ℕ) → z ≡ y → nat_abs y ≤ K → T (ltb K (2 ^ hbits w)) → to_z w (of_z w z) ≡ y
  back w z y K e l t = ap (λ x. to_z w (of_z w x)) e ∙ to_z-of_z (sfits-abs y K l t)

  pub val-den : (c : Code (nth xs)) → T (ok c (nth_n bs)) → val c ≡ den c
  val-den (par w i k) t = to_z-of_z k
  val-den (loc i) t = refl
  val-den (lit c) t = refl
  val-den (add w a b) t =
      let s = both_l (both (ok a (nth_n bs)) (ok b (nth_n bs))) (ltb (bnd a (nth_n bs) + bnd b (nth_n bs)) (2 ^ hbits w)) t in
      back w (val a +ℤ val b) (den a +ℤ den b) (bnd a (nth_n bs) + bnd b (nth_n bs))
      (ap₂ ◌+ℤ◌ (val-den a (both_l (ok a (nth_n bs)) (ok b (nth_n bs)) s)) (val-den b (both_r (ok a (nth_n bs)) (ok b (nth_n bs)) s)))
      (bnd-sound (add w a b))
      (both_r (both (ok a (nth_n bs)) (ok b (nth_n bs))) (ltb (bnd a (nth_n bs) + bnd b (nth_n bs)) (2 ^ hbits w)) t)
  val-den (sub w a b) t =
      let s = both_l (both (ok a (nth_n bs)) (ok b (nth_n bs))) (ltb (bnd a (nth_n bs) + bnd b (nth_n bs)) (2 ^ hbits w)) t in
      back w (val a -ℤ val b) (den a -ℤ den b) (bnd a (nth_n bs) + bnd b (nth_n bs))
      (ap₂ ◌-ℤ◌ (val-den a (both_l (ok a (nth_n bs)) (ok b (nth_n bs)) s)) (val-den b (both_r (ok a (nth_n bs)) (ok b (nth_n bs)) s)))
      (bnd-sound (sub w a b))
      (both_r (both (ok a (nth_n bs)) (ok b (nth_n bs))) (ltb (bnd a (nth_n bs) + bnd b (nth_n bs)) (2 ^ hbits w)) t)
  val-den (mul w a b) t =
      let s = both_l (both (ok a (nth_n bs)) (ok b (nth_n bs))) (ltb (bnd a (nth_n bs) * bnd b (nth_n bs)) (2 ^ hbits w)) t in
      back w (val a *ℤ val b) (den a *ℤ den b) (bnd a (nth_n bs) * bnd b (nth_n bs))
      (ap₂ ◌*ℤ◌ (val-den a (both_l (ok a (nth_n bs)) (ok b (nth_n bs)) s)) (val-den b (both_r (ok a (nth_n bs)) (ok b (nth_n bs)) s)))
      (bnd-sound (mul w a b))
      (both_r (both (ok a (nth_n bs)) (ok b (nth_n bs))) (ltb (bnd a (nth_n bs) * bnd b (nth_n bs)) (2 ^ hbits w)) t)
  val-den (shr w a m) t =
      back w (shr_z (val a) m) (shr_z (den a) m) (suc (bnd a (nth_n bs) / m))
      (ap (λ z. shr_z z m) (val-den a (both_l (ok a (nth_n bs)) (ltb (suc (bnd a (nth_n bs) / m)) (2 ^ hbits w)) t)))
      (bnd-sound (shr w a m))
      (both_r (ok a (nth_n bs)) (ltb (suc (bnd a (nth_n bs) / m)) (2 ^ hbits w)) t)
  val-den (to w a) t =
      back w (val a) (den a) (bnd a (nth_n bs))
      (val-den a (both_l (ok a (nth_n bs)) (ltb (bnd a (nth_n bs)) (2 ^ hbits w)) t))
      (bnd-sound a)
      (both_r (ok a (nth_n bs)) (ltb (bnd a (nth_n bs)) (2 ^ hbits w)) t)

  -- what a need asks: the result of the last step fits its width
  raw-den : (c : Code (nth xs)) → T (ok c (nth_n bs)) → raw c ≡ den c
  raw-den (par w i k) t = refl
  raw-den (loc i) t = refl
  raw-den (lit c) t = refl
  raw-den (add w a b) t =
      let s = both_l (both (ok a (nth_n bs)) (ok b (nth_n bs))) (ltb (bnd a (nth_n bs) + bnd b (nth_n bs)) (2 ^ hbits w)) t in
      ap₂ ◌+ℤ◌ (val-den a (both_l (ok a (nth_n bs)) (ok b (nth_n bs)) s)) (val-den b (both_r (ok a (nth_n bs)) (ok b (nth_n bs)) s))
  raw-den (sub w a b) t =
      let s = both_l (both (ok a (nth_n bs)) (ok b (nth_n bs))) (ltb (bnd a (nth_n bs) + bnd b (nth_n bs)) (2 ^ hbits w)) t in
      ap₂ ◌-ℤ◌ (val-den a (both_l (ok a (nth_n bs)) (ok b (nth_n bs)) s)) (val-den b (both_r (ok a (nth_n bs)) (ok b (nth_n bs)) s))
  raw-den (mul w a b) t =
      let s = both_l (both (ok a (nth_n bs)) (ok b (nth_n bs))) (ltb (bnd a (nth_n bs) * bnd b (nth_n bs)) (2 ^ hbits w)) t in
      ap₂ ◌*ℤ◌ (val-den a (both_l (ok a (nth_n bs)) (ok b (nth_n bs)) s)) (val-den b (both_r (ok a (nth_n bs)) (ok b (nth_n bs)) s))
  raw-den (shr w a m) t = ap (λ z. shr_z z m) (val-den a (both_l (ok a (nth_n bs)) (ltb (suc (bnd a (nth_n bs) / m)) (2 ^ hbits w)) t))
  raw-den (to w a) t = val-den a (both_l (ok a (nth_n bs)) (ltb (bnd a (nth_n bs)) (2 ^ hbits w)) t)

  -- `fits w c tt` answers the need that c's last step, at the width w, fits
  pub fits : (w : Width) (c : Code (nth xs)) → T (both (ok c (nth_n bs)) (ltb (bnd c (nth_n bs)) (2 ^ hbits w))) → SFits w (raw c)
  fits w c t =
      subst (λ z. SFits w z) (sym (raw-den c (both_l (ok c (nth_n bs)) (ltb (bnd c (nth_n bs)) (2 ^ hbits w)) t)))
      (sfits-abs (den c) (bnd c (nth_n bs)) (bnd-sound c) (both_r (ok c (nth_n bs)) (ltb (bnd c (nth_n bs)) (2 ^ hbits w)) t))
