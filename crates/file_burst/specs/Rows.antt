-- The rows of samples, one line each.
use Rattle.std.specs.Prelude.{◌∷◌, ◌++◌, ◌*◌}
use Rattle.file_burst.specs.Prelude.{Bool, List, [], ℕ, zero, suc, Shape, refuse, Part, refused, found, unless, ◌then◌, mapped, value_line, above}
use Rattle.refusals.specs.Numbers as no

-- refusal 11, "sample > 4095", of what was read
abbrev pub unless_above : {A : Type 0} → Bool → A → List ℕ → Part A
unless_above over samples rest = unless (refuse no.sample_value over) (found samples rest)

-- "each row by 15, 14, 11"
unfoldable pub row : (width : ℕ) → List ℕ → Part (List ℕ)
row width bytes = value_line width bytes then (λ samples rest. unless_above (above 4095 samples) samples rest)

-- one row after the other
unfoldable pub row_lines : (count width : ℕ) → List ℕ → Part (List ℕ)
row_lines zero width bytes = found [] bytes
row_lines (suc count) width bytes = row width bytes then (λ samples rest. mapped (λ others. samples ++ others) (row_lines count width rest))

-- "then trailing bytes 15"
abbrev pub ended : {A : Type 0} → Part A → Part A
ended (refused number) = refused number
ended (found a []) = found a []
ended (found a (byte ∷ rest)) = refused no.file_end

-- "one line per row, frame after frame", to the end of the file
unfoldable pub frames_of : Shape → List ℕ → Part (List ℕ)
frames_of shape bytes = ended (row_lines (shape.count * shape.height) shape.width bytes)
