-- The pyramid of a frame: document 01, "Pyramid and vectors".
use Rattle.std.specs.Prelude.{◌/◌}
use Rattle.align_pyramid.specs.Prelude.{ℕ, Shape, Image, level0, level1, level2, level_size, bayer_sum, halved}

-- "each quarter two halvings"; "the image between two halvings" has half the size
unfoldable pub quartered : (height width : ℕ) → Image → Image
quartered height width image = halved (height / 2) (width / 2) (halved height width image)

-- "Level 1 halves it; level 2 is a quarter of level 1, level 3 a quarter of level 2"
unfoldable pub image0 : Shape → Image → Image
image0 shape frame = bayer_sum frame

unfoldable pub image1 : Shape → Image → Image
image1 shape frame = halved (level_size level0 shape.height) (level_size level0 shape.width) (image0 shape frame)

unfoldable pub image2 : Shape → Image → Image
image2 shape frame = quartered (level_size level1 shape.height) (level_size level1 shape.width) (image1 shape frame)

unfoldable pub image3 : Shape → Image → Image
image3 shape frame = quartered (level_size level2 shape.height) (level_size level2 shape.width) (image2 shape frame)
