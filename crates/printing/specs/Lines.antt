-- Document 01, "Burst file and programs": the lines that the programs print, as lists of ASCII codes.
use Rattle.std.specs.Prelude.{cond, eqb, ◌∷◌, ◌++◌}
use Rattle.printing.specs.Prelude.{List, [], code, ℕ, zero, suc, length, take, drop}
use Rattle.printing.specs.Ascii.{ascii}
use Rattle.printing.specs.Decimal.{decimal}

-- a value, then "one space between" where `left` more follow on its line, and LF after the last
unfoldable pub value : ℕ → ℕ → List ℕ
value n left = decimal n ++ (cond (eqb left 0) (code "\n") (code " ") ∷ [])

-- a line of values; none of none
unfoldable pub number_line : List ℕ → List ℕ
number_line [] = []
number_line (n ∷ ns) = value n (length ns) ++ number_line ns

-- "rows": a line for each
unfoldable pub sample_rows : ℕ → ℕ → List ℕ → List ℕ
sample_rows width zero samples = []
sample_rows width (suc height) samples = number_line (take width samples) ++ sample_rows width height (drop width samples)

-- the names over the lines of `motion`
abbrev pub motion_names : List ℕ
motion_names = ascii "frame tiles still far residual\n"

-- "names `width height`"
abbrev pub stack_names : List ℕ
stack_names = ascii "width height\n"

-- "prints only `too large`, LF"
abbrev pub too_large : List ℕ
too_large = ascii "too large\n"

-- "`refused`, a space, its number, LF"
unfoldable pub refusal : ℕ → List ℕ
refusal number = ascii "refused " ++ decimal number ++ ascii "\n"
