-- Inner vocabulary: an image and its halvings, one of the other, in the work area.
use Rattle.std.specs.Prelude.{◌≡◌, ◌+◌, ◌*◌, ◌/◌, ◌≤◌, ◌<◌}
use Rattle.align_pyramid.specs.Prelude.{List, ℕ, zero, suc, length, get_or, ℤ, pos, Image, halved}
use Rattle.align_pyramid.specs.declared.images.Raster.{Raster}
use Rattle.align_pyramid.specs.Words.{end_of, Holds, Source}

-- a size halved k times: one of image number k, where image 0 has the size
unfoldable pub halves : ℕ → ℕ → ℕ
halves size zero = size
halves size (suc k) = halves size k / 2

-- how many words stand before image number k, where image 0 has the height and the width
unfoldable pub words_before : (height width : ℕ) → ℕ → ℕ
words_before height width zero = 0
words_before height width (suc k) = words_before height width k + halves height k * halves width k

-- image number k, where image 0 is the image: each other is the halving of the one before
unfoldable pub chain : (height width : ℕ) → Image → ℕ → Image
chain height width image zero = image
chain height width image (suc k) = halved (halves height k) (halves width k) (chain height width image k)

-- an image stands there, with room for its halving from `to` on, after it
pub record RoomAt (words : List ℤ) (r : Raster) (to : ℕ) : Type 0 where
  pub source : Source words r
  pub after : end_of r ≤ to
  pub room : to + r.height / 2 * (r.width / 2) ≤ length words

-- an image stands there, with room for five halvings after it
pub record Room (words : List ℤ) (r : Raster) : Type 0 where
  pub source : Source words r
  pub high : 32 ≤ r.height
  pub wide : 32 ≤ r.width
  pub room : r.from + words_before r.height r.width 6 ≤ length words

-- image number k stands at its place
abbrev pub HoldsImage : Raster → Image → List ℤ → ℕ → Type 0
HoldsImage r image l k = Holds l (r.from + words_before r.height r.width k) (halves r.height k) (halves r.width k) (chain r.height r.width image k)

-- l is d with the images 1 .. k after image 0
pub record Halvings (r : Raster) (image : Image) (d : List ℤ) (k : ℕ) (l : List ℤ) : Type 0 where
  pub count : k ≤ 5
  pub same : length l ≡ length d
  pub holds : (j : ℕ) → j ≤ k → HoldsImage r image l j
  pub before : (i : ℕ) → i < r.from → get_or l i (pos 0) ≡ get_or d i (pos 0)
  pub after : (i : ℕ) → r.from + words_before r.height r.width (suc k) ≤ i → get_or l i (pos 0) ≡ get_or d i (pos 0)
