-- Inner vocabulary: where a pyramid's images stand in the work area, and what holds once they are laid.
use Rattle.std.specs.Prelude.{◌≡◌, ◌+◌, ◌*◌, ◌≤◌, ◌<◌}
use Rattle.align_pyramid.specs.Prelude.{List, ℕ, length, get_or, ℤ, pos, Shape, Image, Level, level0, level1, level2, level3, level_size}
use Rattle.geometry.specs.LevelTiles.{level_tiles}
use Rattle.align_pyramid.specs.Pyramid.{image0, image1, image2, image3}
use Rattle.align_pyramid.specs.Words.{Holds}
use Rattle.align_pyramid.specs.Chain.{words_before}

-- Six images stand one after the other: level 0, level 1, the image between, level 2, the image between, level 3.
-- how many words of a pyramid stand before image number k
unfoldable pub offset : Shape → ℕ → ℕ
offset shape k = words_before (level_size level0 shape.height) (level_size level0 shape.width) k

-- the words of a pyramid
abbrev pub pyramid_length : Shape → ℕ
pyramid_length shape = offset shape 6

-- the tiles of a level
unfoldable pub tiles : Level → Shape → ℕ
tiles level shape = level_tiles level shape.height * level_tiles level shape.width

-- the words of two pyramids and of the vectors of levels 1 to 3, two for a tile
unfoldable pub align_length : Shape → ℕ
align_length shape = 2 * pyramid_length shape + 2 * (tiles level1 shape + tiles level2 shape + tiles level3 shape)

-- from `at` on stands a level's image
abbrev pub HoldsLevel : List ℤ → ℕ → Level → Shape → Image → Type 0
HoldsLevel list at level shape image = Holds list at (level_size level shape.height) (level_size level shape.width) image

-- from `at` on stands the pyramid of a frame
pub record Levels (shape : Shape) (frame : Image) (at : ℕ) (list : List ℤ) : Type 0 where
  pub holds0 : HoldsLevel list (at + offset shape 0) level0 shape (image0 shape frame)
  pub holds1 : HoldsLevel list (at + offset shape 1) level1 shape (image1 shape frame)
  pub holds2 : HoldsLevel list (at + offset shape 3) level2 shape (image2 shape frame)
  pub holds3 : HoldsLevel list (at + offset shape 5) level3 shape (image3 shape frame)

-- l is d but for the pyramid of a frame, which stands from `at` on
pub record Built (shape : Shape) (frame : Image) (at : ℕ) (d l : List ℤ) : Type 0 where
  pub same : length l ≡ length d
  pub levels : Levels shape frame at l
  pub before : (k : ℕ) → k < at → get_or l k (pos 0) ≡ get_or d k (pos 0)
  pub after : (k : ℕ) → at + pyramid_length shape ≤ k → get_or l k (pos 0) ≡ get_or d k (pos 0)
