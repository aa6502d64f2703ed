-- Where samples stand, and reading outside.
use Rattle.algebra.specs.Prelude.{List, get_or, ℤ, pos, negsuc}
use Rattle.std.specs.Prelude.{ℕ, ◌+◌, ◌-◌, ◌*◌, ◌%◌, min}
use Rattle.geometry.specs.declared.Shape.{Shape}
use Rattle.geometry.specs.Shape.{row_stride}

-- an image: the value at a row and a column
abbrev pub Image : Type 0
Image = ℕ → ℕ → ℕ

-- where the sample of a frame at a row and a column stands
unfoldable pub sample_index : Shape → (frame row column : ℕ) → ℕ
sample_index s frame row column = (frame * s.height + row) * row_stride s + column

-- that sample. The only definition that reads the list of samples
unfoldable pub sample_at : Shape → List ℕ → (frame : ℕ) → Image
sample_at s samples frame row column = get_or samples (sample_index s frame row column) 0

-- "Each frame has four planes of W/2 by H/2, by parity of row and column."
unfoldable pub plane_of : Image → (rowParity columnParity : ℕ) → Image
plane_of frame rowParity columnParity row column = frame (2 * row + rowParity) (2 * column + columnParity)

-- "Outside reads are to mirror [..] repeating with period twice the size" (request L5): a period has the indices forward and then backward, so that
-- place k of it has the index k or, if that is less, what is left of the period behind k
unfoldable pub mirrored : (size k : ℕ) → ℕ
mirrored size k = min k (2 * size - 1 - k)

-- "−1 reads 0, −2 reads 1, and past the far end likewise": the index that is read for z outside a plane, a pyramid level or the image between two
-- halvings. negsuc k is −1−k
unfoldable pub inside : ℕ → ℤ → ℕ
inside size (pos k) = mirrored size (k % (2 * size))
inside size (negsuc k) = mirrored size (k % (2 * size))

-- an image of a height and a width, read anywhere
unfoldable pub read : (height width : ℕ) → Image → ℤ → ℤ → ℕ
read height width image row column = image (inside height row) (inside width column)
