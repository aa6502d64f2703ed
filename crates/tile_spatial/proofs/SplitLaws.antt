-- The copy as 4096 times its high part and its low part: both are small, and so are their transforms, which make up the copy's.
use Rattle.std.specs.Prelude.{◌≡◌, ◌∷◌, ◌*◌, ◌≤◌, ◌<◌, ◌+ℤ◌, ◌-ℤ◌, ◌*ℤ◌}
use Rattle.algebra.specs.Prelude.{ap, ◌∙◌, [], ℕ, arith, lit≤, lit<, ℤ, pos, negsuc, nat_abs, w16, w32, SFits, to_z, of_z, to_z-of_z, sym, subst}
use native.Mathlib.Nat.{le_trans}
use lib.Signed.{shr_z}
use Rattle.algebra.specs.Bound.{AtMost, lit-most, most_fits, mul-fits}
use Rattle.algebra.specs.Floor.{floor-le, floor-lt}
use Rattle.algebra.specs.Order.{zarith, add-pn, sub-pn, abs-pn, min-pn}
use Rattle.algebra.specs.Ring.{var, ◌⊞◌, ◌⊟◌, ◌⊠◌, #◌, ring}
use Rattle.algebra.specs.SumLaws.{sum_z-cong, sum_z-add, sum_z-scale}
use Rattle.tile_spatial.specs.Prelude.{side16, difference_most, copy_most, two_way, two_way_of}
use Rattle.tile_spectrum.specs.Lines.Halfcomplex.{halfcomplex_of, basis, halfcomplex}
use Rattle.tile_spectrum.specs.Lines.Held.{number_is, number-most, cast_fits, cast_is}
use Rattle.tile_spectrum.specs.LineLaws.{halfcomplex-ext, halfcomplex-most}
use Rattle.tile_spatial.specs.Steps.{high_of, low_of, place_most}

-- ---- one sample

high-most : (c : ℤ) → nat_abs c ≤ copy_most → nat_abs (high_of c) ≤ difference_most
unfolding high_of
high-most (pos a) h = omega arith
high-most (negsuc a) h = omega arith

low-most : (c : ℤ) → nat_abs (low_of c) ≤ difference_most
unfolding high_of low_of
low-most c =
    let p = pos 4096 *ℤ shr_z c 4096 in
    omega (zarith, floor-le c 4096 (lit< tt), floor-lt c 4096 (lit< tt), add-pn p (pos 4096), sub-pn c p, abs-pn (c -ℤ p), min-pn (c -ℤ p))

pub high-at : {c : ℤ} → AtMost copy_most c → AtMost difference_most (high_of c)
high-at {c} m = record { most = high-most c m.most }

pub low-at : (c : ℤ) → AtMost difference_most (low_of c)
low-at c = record { most = low-most c }

pub split : (c : ℤ) → c ≡ pos 4096 *ℤ high_of c +ℤ low_of c
unfolding low_of
split c = ring (c ∷ high_of c ∷ []) (var 0) (# 4096 ⊠ var 1 ⊞ (var 0 ⊟ # 4096 ⊠ var 1)) tt

-- as the code works it out
module _ {c : ℤ} (m : AtMost copy_most c) where
  abbrev high : ℤ
  high = to_z w32 (of_z w32 (shr_z c 4096))

  abbrev product : ℤ
  product = to_z w32 (of_z w32 (pos 4096 *ℤ high))

  high_is : high ≡ high_of c
  unfolding high_of
  high_is = number_is w32 (high-at m) tt

  pub product-fits : SFits w32 (pos 4096 *ℤ high)
  unfolding high_of
  product-fits = mul-fits w32 (pos 4096) high 4096 difference_most (lit-most 4096) (number-most w32 (high-at m) tt) tt

  difference-is : c -ℤ product ≡ low_of c
  unfolding low_of
  difference-is = ap (λ z. c -ℤ z) (to_z-of_z product-fits ∙ ap (λ z. pos 4096 *ℤ z) high_is)

  pub difference-fits : SFits w32 (c -ℤ product)
  difference-fits = subst (SFits w32) (sym difference-is) (most_fits w32 (low_of c) difference_most (low-at c) tt)

  pub low_fits : SFits w16 (to_z w32 (of_z w32 (c -ℤ product)))
  low_fits = subst (λ z. SFits w16 (to_z w32 (of_z w32 z))) (sym difference-is) (cast_fits w32 w16 (low-at c) tt tt)

  pub low_is : to_z w16 (of_z w16 (to_z w32 (of_z w32 (c -ℤ product)))) ≡ low_of c
  low_is = subst (λ z. to_z w16 (of_z w16 (to_z w32 (of_z w32 z))) ≡ low_of c) (sym difference-is) (cast_is w32 w16 (low-at c) tt tt)

-- ---- a tile

-- a place of the transform of small numbers
pub two-way-most : (d : ℕ → ℕ → ℤ) → ((y x : ℕ) → nat_abs (d y x) ≤ difference_most) → (k b : ℕ) → nat_abs (two_way d k b) ≤ place_most
unfolding two_way_of side16
two-way-most d m k b =
    le_trans (halfcomplex-most (16 * (difference_most * 16384)) (λ y. halfcomplex (d y) k) (λ y. halfcomplex-most difference_most (d y) (m y) k) b) (lit≤ tt)

-- the transform of 4096·f + g
line-sum : (f g : ℕ → ℤ) (k : ℕ) → halfcomplex (λ i. pos 4096 *ℤ f i +ℤ g i) k ≡ pos 4096 *ℤ halfcomplex f k +ℤ halfcomplex g k
unfolding halfcomplex_of side16
line-sum f g k =
    sum_z-cong 16 _ (λ i. pos 4096 *ℤ (f i *ℤ basis k i) +ℤ g i *ℤ basis k i)
    (λ i l. ring (f i ∷ g i ∷ basis k i ∷ []) ((# 4096 ⊠ var 0 ⊞ var 1) ⊠ var 2) (# 4096 ⊠ (var 0 ⊠ var 2) ⊞ var 1 ⊠ var 2) tt)
    ∙ sum_z-add 16 (λ i. pos 4096 *ℤ (f i *ℤ basis k i)) (λ i. g i *ℤ basis k i)
    ∙ ap (λ z. z +ℤ halfcomplex g k) (sum_z-scale 16 (pos 4096) (λ i. f i *ℤ basis k i))

pub two-way-sum : (c h l : ℕ → ℕ → ℤ) → ((y x : ℕ) → y < 16 → x < 16 → c y x ≡ pos 4096 *ℤ h y x +ℤ l y x) → (k b : ℕ) → two_way c k b ≡ pos 4096 *ℤ two_way h k b +ℤ two_way l k b
unfolding two_way_of side16
two-way-sum c h l e k b =
    halfcomplex-ext _ (λ y. pos 4096 *ℤ halfcomplex (h y) k +ℤ halfcomplex (l y) k)
    (λ y i. halfcomplex-ext (c y) (λ x. pos 4096 *ℤ h y x +ℤ l y x) (λ x j. e y x i j) k ∙ line-sum (h y) (l y) k) b
    ∙ line-sum (λ y. halfcomplex (h y) k) (λ y. halfcomplex (l y) k) b
