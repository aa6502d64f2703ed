-- Inner vocabulary: images in the work area: row after row, a word for each value.
use Rattle.std.specs.Prelude.{◌≡◌, ◌+◌, ◌*◌, ◌/◌, ◌%◌, ◌≤◌, ◌<◌}
use Rattle.align_pyramid.specs.Prelude.{List, ℕ, length, get_or, ℤ, pos, nat_abs, Image, read, halved, value_most, written}
use Rattle.align_pyramid.specs.declared.images.Raster.{Raster}

-- the number at a place of the work area
unfoldable pub word_at : List ℤ → ℕ → ℕ
word_at words k = nat_abs (get_or words k (pos 0))

-- the image whose rows of `width` words stand from `at` on
unfoldable pub image_at : List ℤ → (at width : ℕ) → Image
image_at words at width row column = word_at words (at + row * width + column)

-- the place behind a raster
abbrev pub end_of : Raster → ℕ
end_of r = r.from + r.height * r.width

-- the image that stands in it; the same read inside and outside; and halved
abbrev pub image_in : List ℤ → Raster → Image
image_in words r = image_at words r.from r.width

abbrev pub read_in : List ℤ → Raster → ℤ → ℤ → ℕ
read_in words r = read r.height r.width (image_in words r)

abbrev pub halved_in : List ℤ → Raster → Image
halved_in words r = halved r.height r.width (image_in words r)

-- an image as a list of words: the word number k
abbrev pub word_of : Image → (width k : ℕ) → ℤ
word_of image width k = pos (image (k / width) (k % width))

-- the words with an image of a height and a width written from `at` on
unfoldable pub laid : List ℤ → (at height width : ℕ) → Image → List ℤ
laid words at height width image = written words at (word_of image width) (height * width)

-- the words with one of an image's rows written from `at` on
abbrev pub laid_row : List ℤ → (at width : ℕ) → Image → (row : ℕ) → List ℤ
laid_row words at width image row = written words at (λ column. pos (image row column)) width

-- from `at` on stands an image of a height and a width
pub record Holds (words : List ℤ) (at height width : ℕ) (image : Image) : Type 0 where
  pub room : at + height * width ≤ length words
  pub is : (row column : ℕ) → row < height → column < width → get_or words (at + row * width + column) (pos 0) ≡ pos (image row column)
  pub most : (row column : ℕ) → row < height → column < width → image row column ≤ value_most

-- at a place stands such a value
pub record Held (words : List ℤ) (k : ℕ) : Type 0 where
  pub here : k < length words
  pub is : get_or words k (pos 0) ≡ pos (word_at words k)
  pub most : word_at words k ≤ value_most

-- at each of n places from `at` on stands such a value
pub record Row (words : List ℤ) (at n : ℕ) : Type 0 where
  pub room : at + n ≤ length words
  pub held : (k : ℕ) → k < n → Held words (at + k)

-- an image stands there
pub record Source (words : List ℤ) (r : Raster) : Type 0 where
  pub high : 0 < r.height
  pub wide : 0 < r.width
  pub high_small : r.height ≤ 4096
  pub wide_small : r.width ≤ 4096
  pub holds : Holds words r.from r.height r.width (image_in words r)

-- the same, and its halving has the row, which comes of four of the image's
pub record FourRows (words : List ℤ) (r : Raster) (row : ℕ) : Type 0 where
  pub source : Source words r
  pub row_in : 2 * row + 2 ≤ r.height
