-- Inner vocabulary: how many tiles a level of a frame has, one way.
use Rattle.std.specs.Prelude.{ℕ}
use Rattle.geometry.specs.Tiles.{Level, level_size, tile_count}

unfoldable pub level_tiles : Level → ℕ → ℕ
level_tiles l size = tile_count l.half (level_size l size)
