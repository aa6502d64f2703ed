-- The largest numbers of a line that the passes are proved for.
use Rattle.std.specs.Prelude.{◌-◌, ◌*◌, ◌^◌}
use Rattle.algebra.specs.Prelude.{Bool, cond, ℕ}

-- ---- in 16 bits, and products in 32

-- a difference of two samples
abbrev pub difference_most : ℕ
difference_most = 4095

-- a sum or difference of two of these
abbrev pub difference_fold_most : ℕ
difference_fold_most = 8190

-- a sum or difference of four, in a line of thirty-two
abbrev pub fold_again_most : ℕ
fold_again_most = 16380

-- ---- two lines side by side, in double

-- a place of the first pass, at most 1073479680
abbrev pub pair_line_most : ℕ
pair_line_most = 2 ^ 30

-- a sum or difference that the kernels of sixteen numbers take: of two of these, or of four places of a line of thirty-two
abbrev pub pair_sum_most : ℕ
pair_sum_most = 2 ^ 33

-- ---- back, in double; `low` where the noise numbers are at most 2^33

-- a part of G: half the root of V, which is up to 2^33, or up to 279105765376
abbrev pub part_most : (low : Bool) → ℕ
part_most low = cond low 46341 264153

-- a number of the folded G, two parts
abbrev pub fold_most : (low : Bool) → ℕ
fold_most low = 2 * part_most low

-- what the magnitudes of the basis at a number add up to, at most, over the places of a line; and for half of the sum
abbrev pub basis_sum : ℕ
basis_sum = 181120

abbrev pub half_basis_sum : ℕ
half_basis_sum = 164736

-- of that, over the even places and over the odd ones
abbrev pub even_half_sum : ℕ
even_half_sum = 79108

abbrev pub odd_basis_sum : ℕ
odd_basis_sum = 92680

-- a sum back down a column
abbrev pub column_most : (low : Bool) → ℕ
column_most low = fold_most low * basis_sum

-- half of a sum back along a row: below 5·2^49 where noise is low, and else below 2^54
abbrev pub half_most : (low : Bool) → ℕ
half_most low = column_most low * half_basis_sum

-- ---- lines of thirty-two numbers (request L8)

-- in 32 bits: a place of the first pass, at most 2146959360
abbrev pub long_line_most : ℕ
long_line_most = 2 ^ 31 - 1

-- a sum or difference of two of these
abbrev pub long_sum_most : ℕ
long_sum_most = 2 ^ 32

-- back, in double, and the last sums in 64 bits where noise is neither low nor middle: `low` where the noise numbers are at most 2^29, `middle` up to 2^32

-- a part of G: half the root of V, which is up to 2^29, up to 2^32, or up to 69776441344
abbrev pub long_part_most : (low middle : Bool) → ℕ
long_part_most low middle = cond low 11586 (cond middle 32768 132077)

-- a number of the folded G, two parts
abbrev pub long_fold_most : (low middle : Bool) → ℕ
long_fold_most low middle = 2 * long_part_most low middle

-- what the magnitudes of the basis at a number add up to, at most, over the places of a line; for half of the sum; and over every second odd place
abbrev pub long_basis_sum : ℕ
long_basis_sum = 349080

abbrev pub long_half_basis_sum : ℕ
long_half_basis_sum = 332696

-- a sum back down a column
abbrev pub long_column_most : (low middle : Bool) → ℕ
long_column_most low middle = long_fold_most low middle * long_basis_sum

-- half of a sum back along a row: below 5·2^49 where noise is low, below 2^53 where it is middle, and else below 2^55
abbrev pub long_half_most : (low middle : Bool) → ℕ
long_half_most low middle = long_column_most low middle * long_half_basis_sum
