-- L2, what stands before the samples of a PGM file: "`P5`, LF, width, a space, height, LF, `4095`, LF"; and a number read off it.
use Rattle.std.specs.Prelude.{◌&&◌, ◌∷◌, ◌++◌, ◌+◌, ◌-◌, ◌*◌}
use Rattle.algebra.specs.Prelude.{cond, List, [], ℕ, zero, suc, leb}
use Rattle.printing.specs.Ascii.{ascii}
use Rattle.printing.specs.Decimal.{decimal}

-- what stands before the samples
unfoldable pub pgm_header : (width height : ℕ) → List ℕ
pgm_header width height = ascii "P5\n" ++ decimal width ++ ascii " " ++ decimal height ++ ascii "\n4095\n"

-- the number that the digits in front, `most` of them at most, write behind those of `value`
unfoldable pub leading : (most value : ℕ) → List ℕ → ℕ
leading zero value bytes = value
leading (suc most) value [] = value
leading (suc most) value (byte ∷ bytes) = cond (leb 48 byte && leb byte 57) (leading most (value * 10 + (byte - 48)) bytes) value
