-- Inner vocabulary: squares of samples in local arrays: a square's rows stand one after the other.
use Rattle.std.specs.Prelude.{◌≡◌, ◌+◌, ◌*◌, ◌%◌, ◌^◌, ◌≤◌, ◌<◌, ◌+ℤ◌}
use Rattle.algebra.specs.Prelude.{List, ℕ, length, get_or, ℤ, pos, nat_abs}
use Rattle.geometry.specs.Read.{inside}
use Rattle.geometry.specs.declared.vectors.Vector.{Vector}
use Rattle.align_pyramid.specs.declared.images.Raster.{Raster}
use Rattle.align_pyramid.specs.Words.{word_at, Row, Source}
use Rattle.align_patch.specs.Bounds.{Within}

-- the array holds so many rows of n values of f, from a row and a column on
pub record Copied (l : List ℕ) (rows n : ℕ) (f : ℤ → ℤ → ℕ) (row column : ℤ) : Type 0 where
  pub cell : (i j : ℕ) → i < rows → j < n → get_or l (i * n + j) 0 ≡ f (row +ℤ pos i) (column +ℤ pos j)

-- a row of an image, whose words stand from `start` on: the sample j columns behind a column, mirrored outside
abbrev pub sample_of : (words : List ℤ) → (start width : ℕ) → (column : ℤ) → (j : ℕ) → ℕ
sample_of words start width column j = word_at words (start + inside width (column +ℤ pos j))

-- n samples of the row from a column on can be copied, to the place `to` of an array
pub record RowCopy (words : List ℤ) (start width : ℕ) (column : ℤ) (n : ℕ) (out : List ℕ) (to : ℕ) : Type 0 where
  pub row : Row words start width
  pub wide : 0 < width
  pub wide_small : width ≤ 4096
  pub near : nat_abs column + n ≤ 2 ^ 32
  pub eights : n % 8 ≡ 0
  pub small : n ≤ 64
  pub room : to + n ≤ length out

-- a square of n by n samples of the image from a corner on can be copied, to an array of so many
pub record SquareCopy (words : List ℤ) (image : Raster) (corner : Vector) (n many : ℕ) : Type 0 where
  pub source : Source words image
  pub near : Within (2 ^ 20) corner
  pub small : n ≤ 64
  pub eights : n % 8 ≡ 0
  pub room : n * n ≤ many
