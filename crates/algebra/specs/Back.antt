-- A signed 64-bit value comes back from its bits.
use Rattle.std.specs.Prelude.{◌≡◌, ◌+◌, ◌^◌, ◌≤◌, ◌<◌, ◌+ℤ◌}
use Rattle.algebra.specs.Prelude.{ap₂, ℕ, T, ltb, ℤ, nat_abs, w64, SFits, to_z, of_z, to_z-of_z}
use Rattle.std.specs.Int.Signed.{mag}
use Rattle.algebra.specs.Bound.{most_fits, add-fits}
use Rattle.algebra.specs.Test.{both, both_l, both_r}

-- `back c.f.ok`: what a call returned
pub back : (z : ℤ) → mag z < 2 ^ 63 → to_z w64 (of_z w64 z) ≡ z
back z h = to_z-of_z {w = w64} {z = z} (record { sfits = h })

pub back-small : (z : ℤ) (b : ℕ) → nat_abs z ≤ b → T (ltb b (2 ^ 63)) → to_z w64 (of_z w64 z) ≡ z
back-small z b h t = to_z-of_z (most_fits w64 z b (record { most = h }) t)

-- a sum of two small values
module _ (x y : ℤ) (a b : ℕ) (hx : nat_abs x ≤ a) (hy : nat_abs y ≤ b) (t : T (both (ltb a (2 ^ 63)) (both (ltb b (2 ^ 63)) (ltb (a + b) (2 ^ 63))))) where
  bits : to_z w64 (of_z w64 x) +ℤ to_z w64 (of_z w64 y) ≡ x +ℤ y
  bits =
      let u = both_r (ltb a (2 ^ 63)) (both (ltb b (2 ^ 63)) (ltb (a + b) (2 ^ 63))) t in
      ap₂ ◌+ℤ◌ (back-small x a hx (both_l (ltb a (2 ^ 63)) (both (ltb b (2 ^ 63)) (ltb (a + b) (2 ^ 63))) t)) (back-small y b hy (both_l (ltb b (2 ^ 63)) (ltb (a + b) (2 ^ 63)) u))

  small : SFits w64 (x +ℤ y)
  small =
      let u = both_r (ltb a (2 ^ 63)) (both (ltb b (2 ^ 63)) (ltb (a + b) (2 ^ 63))) t in
      add-fits w64 x y a b (record { most = hx }) (record { most = hy }) (both_r (ltb b (2 ^ 63)) (ltb (a + b) (2 ^ 63)) u)

  pub sum_fits : SFits w64 (to_z w64 (of_z w64 x) +ℤ to_z w64 (of_z w64 y))
  sum_fits = rw bits small

  pub sum_back : to_z w64 (of_z w64 (to_z w64 (of_z w64 x) +ℤ to_z w64 (of_z w64 y))) ≡ x +ℤ y
  sum_back = rw bits (to_z-of_z small)
