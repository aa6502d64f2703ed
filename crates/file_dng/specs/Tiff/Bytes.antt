-- Numbers in the bytes of a file, "little-endian". A byte past the end counts as 0.
use Rattle.std.specs.Prelude.{◌+◌, ◌*◌}
use Rattle.algebra.specs.Prelude.{cond, List, ℕ, eqb, get_or}

-- a SHORT: two bytes, the low one first
unfoldable pub short : List ℕ → (at : ℕ) → ℕ
short file at = get_or file at 0 + 256 * get_or file (at + 1) 0

-- a LONG: four bytes
unfoldable pub long : List ℕ → (at : ℕ) → ℕ
long file at = short file at + 65536 * short file (at + 2)

-- the pattern of a DOUBLE: eight bytes
unfoldable pub eight : List ℕ → (at : ℕ) → ℕ
eight file at = long file at + 4294967296 * long file (at + 4)

-- a BYTE, SHORT or LONG by its size
unfoldable pub number : (size : ℕ) → List ℕ → (at : ℕ) → ℕ
number size file at =
    cond (eqb size 1) (get_or file at 0)
    (cond (eqb size 2) (short file at)
    (cond (eqb size 4) (long file at) 0))
