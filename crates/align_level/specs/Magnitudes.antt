-- How large vectors are, and how many rows are summed for a tile.
use Rattle.std.specs.Prelude.{ℕ}

-- the parts of coarse vectors (level 1's `bound`), and of what is found around four times that
abbrev pub coarse_most : ℕ
coarse_most = 84

abbrev pub found_most : ℕ
found_most = 340

-- the rows summed for a tile of side 32: 81 · 32 and the candidates' 96. Of side 16 they are half as many
abbrev pub tile_rows_most : ℕ
tile_rows_most = 2688
