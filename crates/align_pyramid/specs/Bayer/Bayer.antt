-- Level 0 of a frame: document 01, "Pyramid and vectors".
use Rattle.std.specs.Prelude.{◌+◌, ◌*◌}
use Rattle.geometry.specs.Read.{Image}

-- "Level 0: the sum of each 2 by 2 Bayer square."
unfoldable pub bayer_sum : Image → Image
bayer_sum frame row column =
    frame (2 * row) (2 * column) + frame (2 * row) (2 * column + 1) + frame (2 * row + 1) (2 * column) + frame (2 * row + 1) (2 * column + 1)
