-- The six images as a chain of halvings: which of them are the levels, and that they fit.
use Rattle.std.specs.Prelude.{◌≡◌, ◌+◌, ◌*◌, ◌/◌, ◌≤◌}
use Rattle.align_pyramid.specs.Prelude.{refl, ◌∙◌, List, ℕ, suc, arith, ℤ, Shape, Image, level0, level1, level2, level3, level_size, tile_count}
use Rattle.std.proofs.Common.{mul-le-mul}
use Rattle.geometry.specs.Fits.{Allowed}
use Rattle.geometry.specs.LevelTiles.{level_tiles}
use Rattle.align_pyramid.specs.Pyramid.{quartered, image0, image1, image2, image3}
use Rattle.align_pyramid.specs.WordsLaws.{Kept, kept-holds}
use Rattle.align_pyramid.specs.Chain.{halves, chain}
use Rattle.align_pyramid.specs.ChainLaws.{quarter, words-end, words-third}
use Rattle.align_pyramid.specs.Layout.{offset, pyramid_length, tiles, align_length, Levels, Built}

-- a quarter is two steps of the chain
chain-quarter : (height width : ℕ) (image : Image) (k : ℕ)
    → chain height width image (suc (suc k)) ≡ quartered (halves height k) (halves width k) (chain height width image k)
unfolding chain quartered halves
chain-quarter height width image k = refl

-- which sizes are a level's
module _ (size : ℕ) where
  pub size0 : halves (level_size level0 size) 0 ≡ level_size level0 size
  unfolding halves
  size0 = refl

  pub size1 : halves (level_size level0 size) 1 ≡ level_size level1 size
  unfolding halves level_size
  size1 = omega arith

  pub size3 : halves (level_size level0 size) 3 ≡ level_size level2 size
  unfolding halves level_size
  size3 = omega arith

  pub size5 : halves (level_size level0 size) 5 ≡ level_size level3 size
  unfolding halves level_size
  size5 = omega arith

-- and which images
abbrev pub image_number : Shape → Image → ℕ → Image
image_number shape frame = chain (level_size level0 shape.height) (level_size level0 shape.width) (image0 shape frame)

module _ (shape : Shape) (frame : Image) where
  pub chain0 : image_number shape frame 0 ≡ image0 shape frame
  unfolding chain
  chain0 = refl

  pub chain1 : image_number shape frame 1 ≡ image1 shape frame
  unfolding chain image1 halves
  chain1 = refl

  pub chain3 : image_number shape frame 3 ≡ image2 shape frame
  unfolding image2
  chain3 = chain-quarter _ _ _ 1 ∙ rw (size1 shape.height, size1 shape.width, chain1)

  pub chain5 : image_number shape frame 5 ≡ image3 shape frame
  unfolding image3
  chain5 = chain-quarter _ _ _ 3 ∙ rw (size3 shape.height, size3 shape.width, chain3)

-- a level above level 0 has at most a tile for 16 by 16 samples of the frame
module _ {shape : Shape} (ok : Allowed shape) where
  tiles-most : {a b : ℕ} → a ≤ shape.height / 16 → b ≤ shape.width / 16 → 256 * (a * b) ≤ shape.height * shape.width
  tiles-most {a} {b} h w =
      omega (arith, mul-le-mul {n₁ = 16 * a} {m₁ = 16 * b} {n₂ = shape.height} {m₂ = shape.width} (omega arith) (omega arith))

  -- what alignment lays has fewer words than a frame has samples
  pub align_fits : align_length shape ≤ shape.width * shape.height
  unfolding align_length tiles level_tiles tile_count offset level_size
  align_fits =
      let high = shape.height in
      let wide = shape.width in
      let h = ok.high.least in
      let w = ok.wide.least in
      omega (
        arith,
        words-third (high / 2) (wide / 2),
        quarter high wide,
        tiles-most {a = (high / 4 + 7) / 8 + 1} {b = (wide / 4 + 7) / 8 + 1} (omega arith) (omega arith),
        tiles-most {a = (high / 16 + 7) / 8 + 1} {b = (wide / 16 + 7) / 8 + 1} (omega arith) (omega arith),
        tiles-most {a = (high / 64 + 3) / 4 + 1} {b = (wide / 64 + 3) / 4 + 1} (omega arith) (omega arith),
      )

-- the words before a pyramid are kept, and so is a pyramid before which nothing is written
pub built-kept : {shape : Shape} {frame : Image} {at : ℕ} {d l : List ℤ} → Built shape frame at d l → Kept d at l
built-kept b = record { same = b.same; kept = b.before }

pub levels-kept : {shape : Shape} {frame : Image} {at : ℕ} {l l' : List ℤ} → Levels shape frame at l → Kept l (at + pyramid_length shape) l' → Levels shape frame at l'
unfolding offset
levels-kept {shape} {frame} {at} {l} h k =
    let high = shape.height in
    let wide = shape.width in
    let size = level_size level0 in
    record {
      holds0 = kept-holds k _ _ _ (omega (arith, rw (size0 high, size0 wide) at (words-end (size high) (size wide) 0 (omega arith)))) h.holds0;
      holds1 = kept-holds k _ _ _ (omega (arith, rw (size1 high, size1 wide) at (words-end (size high) (size wide) 1 (omega arith)))) h.holds1;
      holds2 = kept-holds k _ _ _ (omega (arith, rw (size3 high, size3 wide) at (words-end (size high) (size wide) 3 (omega arith)))) h.holds2;
      holds3 = kept-holds k _ _ _ (omega (arith, rw (size5 high, size5 wide) at (words-end (size high) (size wide) 5 (omega arith)))) h.holds3;
    }
