-- Places in tables whose rows stand one after the other.
use Rattle.std.specs.Prelude.{◌≡◌, ◌+◌, ◌*◌, ◌/◌, ◌%◌, ◌≤◌, ◌<◌}
use Rattle.algebra.specs.Prelude.{◌∙◌, ℕ, zero, suc, arith}
use Rattle.std.proofs.Common.{mul-le-mul_right, suc-mul, mul-zero, mod-eq_of_lt, div-lt_iff_lt-mul, mod-lt}
use Rattle.std.proofs.Math.Nat.{mul-add-div_right, mul-add-mod_self_right, div-eq_of_lt}

-- a row of a table lies in it
pub row_room : (row height width : ℕ) → row < height → row * width + width ≤ height * width
row_room row height width h = omega (arith, suc-mul row width, mul-le-mul_right width h)

-- the row and the column of a place
pub place-row : (row column width : ℕ) → column < width → (row * width + column) / width ≡ row
place-row row column width h = mul-add-div_right (omega arith) row column ∙ omega (arith, div-eq_of_lt h)

pub place-column : (row column width : ℕ) → column < width → (row * width + column) % width ≡ column
place-column row column width h = mul-add-mod_self_right row width column ∙ mod-eq_of_lt h

-- they lie in the table where the place does
pub row_below : (k height width : ℕ) → k < height * width → k / width < height
row_below k height zero h = absurd (omega (arith, mul-zero height))
row_below k height (suc w) h = (div-lt_iff_lt-mul {k = suc w} {x = k} {y = height} (omega arith)).1 h

pub column_below : (k height width : ℕ) → k < height * width → k % width < width
column_below k height zero h = absurd (omega (arith, mul-zero height))
column_below k height (suc w) h = mod-lt k (omega arith)
