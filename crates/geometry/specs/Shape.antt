-- Sizes, counts, sides and row lengths that are allowed, the lengths of the four lent buffers, and refusals 1 to 7, 22 and 23.
use Rattle.std.specs.Prelude.{◌&&◌, ◌||◌, ◌+◌, ◌-◌, ◌*◌, ◌%◌}
use Rattle.algebra.specs.Prelude.{Bool, not, ℕ, eqb, leb}
use Rattle.refusals.specs.Numbers as no
use Rattle.refusals.specs.Tests.{refuse}
use Rattle.geometry.specs.declared.Shape.{Shape}
use Rattle.geometry.specs.Tiles.{frame_parts}

-- a burst's shape, by W, H, N, the side of its tiles and L
abbrev pub shaped : (width height count side row_length : ℕ) → Shape
shaped width height count side row_length = record { width = width; height = height; count = count; side = side; pitch = row_length }

-- "Width W and height H are multiples of 64 from 64 to 4096."
unfoldable pub size_allowed : ℕ → Bool
size_allowed size = leb 64 size && leb size 4096 && eqb (size % 64) 0

-- "There are N [..] frames": 1 to 8 (request L4)
unfoldable pub count_allowed : ℕ → Bool
count_allowed count = leb 1 count && leb count 8

-- refusal 1: "W or H not allowed"
unfoldable pub size_refusal : Shape → ℕ
size_refusal s = refuse no.size (not (size_allowed s.width && size_allowed s.height))

-- refusal 2: "N is 0 or above 8" (request L4)
unfoldable pub count_refusal : Shape → ℕ
count_refusal s = refuse no.count (not (count_allowed s.count))

-- refusal 3: "reference ≥ N"
unfoldable pub reference_refusal : Shape → ℕ → ℕ
reference_refusal s reference = refuse no.reference (leb s.count reference)

-- "Offer side 32 at level 0 and in the merge" (request L8)
unfoldable pub side_allowed : ℕ → Bool
side_allowed side = eqb side 16 || eqb side 32

-- refusal 22: "a side other than 16 or 32" (request L8)
unfoldable pub side_refusal : Shape → ℕ
side_refusal s = refuse no.side (not (side_allowed s.side))

-- "a row length L, from W to W + 256" (request L9)
unfoldable pub row_allowed : (width row_length : ℕ) → Bool
row_allowed width row_length = leb width row_length && leb row_length (width + 256)

-- refusal 23: "a row length outside that range" (request L9)
unfoldable pub row_refusal : Shape → ℕ
row_refusal s = refuse no.row_length (not (row_allowed s.width s.pitch))

-- "Frames are Bayer RGGB, row by row", with "spare words after each row" (request L9): from a sample to the one below it, and to the one in the next frame
abbrev pub row_stride : Shape → ℕ
row_stride s = s.pitch

abbrev pub frame_stride : Shape → ℕ
frame_stride s = row_stride s * s.height

-- "sample length is N·L·H" (request L9)
unfoldable pub sample_length : Shape → ℕ
sample_length s = s.count * frame_stride s

-- "Lengths: vectors (N−1)·2·(W/16+1)·(H/16+1)"; with side 32, "Vectors per frame: 2·(W/32+1)·(H/32+1)" (request L8)
unfoldable pub vector_length : Shape → ℕ
vector_length s = (s.count - 1) * frame_parts s

-- "output W·H"
unfoldable pub output_length : Shape → ℕ
output_length s = s.width * s.height

-- "work area 2·W·H"
unfoldable pub work_length : Shape → ℕ
work_length s = 2 * (s.width * s.height)

-- refusals 4 to 7: a lent buffer of another length
unfoldable pub length_refusal : ℕ → ℕ → ℕ → ℕ
length_refusal number right length = refuse number (not (eqb length right))
