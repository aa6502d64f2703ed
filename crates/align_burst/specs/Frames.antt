-- The vectors of a frame against the reference, from the two frames' pyramids.
use Rattle.std.specs.Prelude.{ℕ, zero, suc}
use Rattle.align_burst.specs.Prelude.{Shape, Image, read, level_size, Pair, VectorField, level_at}
use Rattle.align_pyramid.specs.Pyramid.{image0, image1, image2, image3}
use Rattle.align_burst.specs.Fields.{field0, residual_sum}

-- the image of a level by its number
abbrev pub level_image : ℕ → Shape → Image → Image
level_image zero = image0
level_image (suc zero) = image1
level_image (suc (suc zero)) = image2
level_image (suc (suc (suc k))) = image3

-- "Outside reads are to mirror [..] in pyramid, residuals and merge tiles": a level's images of the reference and of another frame
unfoldable pub pairs : Shape → (reference other : Image) → ℕ → Pair
pairs shape reference other k =
    let height = level_size (level_at shape.side k) shape.height in
    let width = level_size (level_at shape.side k) shape.width in
    record {
      height = height;
      width = width;
      reference = read height width (level_image k shape reference);
      other = read height width (level_image k shape other);
    }

-- a frame's vectors at level 0, and the sum of their residuals
unfoldable pub vectors_of : Shape → (reference other : Image) → VectorField
vectors_of shape reference other = field0 shape.side (pairs shape reference other)

unfoldable pub residual_of : Shape → (reference other : Image) → ℕ
residual_of shape reference other = residual_sum shape.side (pairs shape reference other)
