-- How large a rounded quotient is.
use Rattle.std.specs.Prelude.{◌+◌, ◌*◌, ◌/◌, ◌≤◌, ◌<◌}
use Rattle.tile_spectrum.specs.Prelude.{ℕ, arith, lit<, ℤ, nat_abs, away}
use Rattle.std.proofs.Common.{le_trans, le-div_iff_mul-le, div-lt_iff_lt-mul, div-mul-le_self, mul-pos}
use Rattle.algebra.specs.Most.{away-abs}

div_mono : (a b m : ℕ) → 0 < m → a ≤ b → a / m ≤ b / m
div_mono a b m h l = (le-div_iff_mul-le {k = m} {x = a / m} {y = b} h).1 (le_trans (div-mul-le_self a m) l)

pub away-most : (z : ℤ) (m b : ℕ) → 0 < m → nat_abs z ≤ b → nat_abs (away z m) ≤ (2 * b + m) / (2 * m)
away-most z m b h l =
    rw (away-abs z m) (div_mono (2 * nat_abs z + m) (2 * b + m) (2 * m) (mul-pos {m = 2} (lit< tt) h) (omega arith))

-- (2·n + m)/(2·m) < b + 1, since n ≤ b·m
quotient : (n m b : ℕ) → 0 < m → n ≤ b * m → (2 * n + m) / (2 * m) ≤ b
quotient n m b h l =
    let k : (2 * n + m) / (2 * m) < b + 1 = (div-lt_iff_lt-mul {k = 2 * m} {x = 2 * n + m} {y = b + 1} (omega arith)).1 (omega (arith, l)) in
    omega arith

pub away-within : (z : ℤ) (m b : ℕ) → 0 < m → nat_abs z ≤ b * m → nat_abs (away z m) ≤ b
away-within z m b h l = rw (away-abs z m) (quotient (nat_abs z) m b h l)
