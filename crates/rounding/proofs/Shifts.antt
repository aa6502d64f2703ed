-- Division by 2·h to nearest, halves away from zero, as a floor: h is added, and 1 taken from what is below zero.
use Rattle.std.specs.Prelude.{◌≡◌, ◌∷◌, ◌+◌, ◌-◌, ◌*◌, ◌/◌, ◌^◌, ◌≤◌, ◌<◌, ◌+ℤ◌}
use Rattle.algebra.specs.Prelude.{ap, ◌∙◌, List, [], ℕ, suc, arith, T, ltb, lit<, ℤ, pos, negsuc, nat_abs, neg_ℤ, w64, SFits}
use native.Mathlib.Nat.{mul-pos, div-add-mod', mod-lt}
use lib.Signed.{shr_z}
use mir.Val.{hbits}
use Rattle.algebra.specs.Vars.{vars3}
use Rattle.algebra.specs.Ring.{nth, ◌⊞◌, ◌⊠◌, ⊖◌, #◌}
use Rattle.algebra.specs.Test.{both}
use Rattle.algebra.specs.Code.{Code, par, lit, add, shr, val, raw, bnd, ok, nth_n, Bounded, fits, val-den}
use Rattle.algebra.specs.Cert.{le, by_le, by-lt, le-pos}
use Rattle.algebra.specs.Floor.{floor-unique}
use Rattle.algebra.specs.Nearest.{away}

module _ (a h : ℕ) (l : 0 < h) where
  abbrev n : ℕ
  n = (2 * a + 2 * h) / (2 * (2 * h))

  low : 2 * (h * n) ≤ a + h
  low = omega (arith, div-add-mod' (2 * a + 2 * h) (2 * (2 * h)))

  high : a + h + 1 ≤ 2 * (h * n) + 2 * h
  high = omega (arith, div-add-mod' (2 * a + 2 * h) (2 * (2 * h)), mod-lt (2 * a + 2 * h) (mul-pos {m = 2} (lit< tt) (mul-pos {m = 2} (lit< tt) l)))

  from_zero : shr_z (pos a +ℤ pos h +ℤ pos 0) (2 * h) ≡ pos n
  from_zero =
      let (A, H, N) = vars3 in
      let xs = pos a ∷ pos h ∷ pos n ∷ [] in
      floor-unique _ (pos n) (2 * h) (mul-pos {m = 2} (lit< tt) l)
      (by_le xs (# 2 ⊠ H ⊠ N) (A ⊞ H ⊞ # 0) (le (# 2 ⊠ (H ⊠ N)) (A ⊞ H) (le-pos low)) tt)
      (by-lt xs (A ⊞ H ⊞ # 0) (# 2 ⊠ H ⊠ N ⊞ # 2 ⊠ H) (le (A ⊞ H ⊞ # 1) (# 2 ⊠ (H ⊠ N) ⊞ # 2 ⊠ H) (le-pos high)) tt)

  below-zero : shr_z (neg_ℤ (pos a) +ℤ pos h +ℤ negsuc 0) (2 * h) ≡ neg_ℤ (pos n)
  below-zero =
      let (A, H, N) = vars3 in
      let xs = pos a ∷ pos h ∷ pos n ∷ [] in
      floor-unique _ (neg_ℤ (pos n)) (2 * h) (mul-pos {m = 2} (lit< tt) l)
      (by_le xs (# 2 ⊠ H ⊠ ⊖ N) (⊖ A ⊞ H ⊞ ⊖ # 1) (le (A ⊞ H ⊞ # 1) (# 2 ⊠ (H ⊠ N) ⊞ # 2 ⊠ H) (le-pos high)) tt)
      (by-lt xs (⊖ A ⊞ H ⊞ ⊖ # 1) (# 2 ⊠ H ⊠ ⊖ N ⊞ # 2 ⊠ H) (le (# 2 ⊠ (H ⊠ N)) (A ⊞ H) (le-pos low)) tt)

away-shift : (z : ℤ) (h : ℕ) → 0 < h → nat_abs z < 2 ^ 63 → shr_z (z +ℤ pos h +ℤ shr_z z (2 ^ 63)) (2 * h) ≡ away z (2 * h)
unfolding away
away-shift (pos a) h l m =
    let e : a / 2 ^ 63 ≡ 0 = omega arith in
    ap (λ s. shr_z (pos a +ℤ pos h +ℤ pos s) (2 * h)) e ∙ from_zero a h l
away-shift (negsuc a) h l m =
    let e : a / 2 ^ 63 ≡ 0 = omega arith in
    ap (λ s. shr_z (negsuc a +ℤ pos h +ℤ negsuc s) (2 * h)) e ∙ below-zero (suc a) h l

-- the steps of the code, each within 64 bits: a test that computes once h is a number
module _ (z : ℤ) (f : SFits w64 z) (m : nat_abs z < 2 ^ 63 - 2 ^ 32) (h : ℕ) where
  abbrev xs : List ℤ
  xs = z ∷ []

  abbrev bs : List ℕ
  bs = (2 ^ 63 - 2 ^ 32) ∷ []

  small : Bounded xs bs
  small = (omega arith, tt)

  abbrev Raised : Code (nth xs)
  Raised = add w64 (par w64 0 f) (lit (pos h))

  abbrev Moved : Code (nth xs)
  Moved = add w64 Raised (shr w64 (par w64 0 f) (2 ^ 63))

  abbrev Result : Code (nth xs)
  Result = shr w64 Moved (2 * h)

  abbrev Passes : Code (nth xs) → Type 0
  Passes c = T (both (ok c (nth_n bs)) (ltb (bnd c (nth_n bs)) (2 ^ hbits w64)))

  pub raised-fits : Passes Raised → SFits w64 (raw Raised)
  raised-fits t = fits xs bs small w64 Raised t

  pub moved-fits : Passes Moved → SFits w64 (raw Moved)
  moved-fits t = fits xs bs small w64 Moved t

  pub shifted : 0 < h → T (ok Result (nth_n bs)) → val Result ≡ away z (2 * h)
  shifted l t = val-den xs bs small Result t ∙ away-shift z h l (omega arith)
