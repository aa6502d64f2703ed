-- Fractions as document 01 has them: a pair of whole numbers, the lower one above 0; added and compared by cross-multiplying.
use Rattle.std.specs.Prelude.{◌*◌, ◌≤◌, ◌<◌, ◌+ℤ◌, ◌-ℤ◌, ◌*ℤ◌}
use Rattle.algebra.specs.Prelude.{ℕ, zero, suc, arith, lit<, ℤ, pos, negsuc, nat_abs, neg_ℤ}
use Rattle.std.proofs.Common.{mul-pos}
use Rattle.algebra.specs.Clamp.{clamp_z}

infixl 6 ◌+F◌ ◌-F◌
infixl 7 ◌·F◌ ◌×F◌ ◌÷F◌
pub record Frac : Type 0 where
  pub num : ℤ
  pub den : ℕ
  pub above : 0 < den

-- z/m
unfoldable pub frac : ℤ → (m : ℕ) → 0 < m → Frac
frac z m h = record { num = z; den = m; above = h }

unfoldable pub whole : ℤ → Frac
whole z = record { num = z; den = 1; above = lit< tt }

unfoldable pub ◌+F◌ : Frac → Frac → Frac
x +F y =
    record { num = x.num *ℤ pos y.den +ℤ y.num *ℤ pos x.den; den = x.den * y.den; above = mul-pos x.above y.above }

unfoldable pub ◌-F◌ : Frac → Frac → Frac
x -F y =
    record { num = x.num *ℤ pos y.den -ℤ y.num *ℤ pos x.den; den = x.den * y.den; above = mul-pos x.above y.above }

-- a whole number times a fraction
unfoldable pub ◌·F◌ : ℤ → Frac → Frac
k ·F x = record { num = k *ℤ x.num; den = x.den; above = x.above }

unfoldable pub ◌×F◌ : Frac → Frac → Frac
x ×F y = record { num = x.num *ℤ y.num; den = x.den * y.den; above = mul-pos x.above y.above }

-- x divided by z/m; where z is 0 there is nothing to divide by, and it is 0
unfoldable pub divide : Frac → ℤ → ℕ → Frac
divide x (pos zero) m = whole (pos 0)
divide x (pos (suc a)) m =
    record { num = x.num *ℤ pos m; den = x.den * suc a; above = mul-pos x.above (omega arith) }
divide x (negsuc a) m =
    record { num = neg_ℤ (x.num *ℤ pos m); den = x.den * suc a; above = mul-pos x.above (omega arith) }

unfoldable pub ◌÷F◌ : Frac → Frac → Frac
x ÷F y = divide x y.num y.den

-- by a whole number above 0
unfoldable pub over : Frac → (m : ℕ) → 0 < m → Frac
over x m h = record { num = x.num; den = x.den * m; above = mul-pos x.above h }

-- f 0 + .. + f (n − 1)
unfoldable pub sum_f : ℕ → (ℕ → Frac) → Frac
sum_f zero f = whole (pos 0)
sum_f (suc n) f = sum_f n f +F f n

-- held to 0..hi
unfoldable pub held : ℕ → Frac → Frac
held hi x = record { num = clamp_z (pos 0) (pos (hi * x.den)) x.num; den = x.den; above = x.above }

-- x and y differ by at most e/d: |x.num·y.den − y.num·x.den| / (x.den·y.den) ≤ e/d
pub record Within (e d : ℕ) (x y : Frac) : Type 0 where
  pub within : nat_abs (pos d *ℤ (x.num *ℤ pos y.den -ℤ y.num *ℤ pos x.den)) ≤ e * (x.den * y.den)
