-- Inside this crate: the steps of the spatial filter on two tiles side by side, as the code takes them.
use Rattle.std.specs.Prelude.{◌+◌, ◌*◌, ◌/◌, ◌%◌, ◌^◌, ◌+ℤ◌, ◌-ℤ◌, ◌*ℤ◌}
use Rattle.tile_spatial.specs.Prelude.{List, ℕ, get_or, ℤ, pos, Float, to_signed, cell, side16, copy_filtered, frequency, transposed, tile_re, tile_im, plane_in}
use Rattle.std.specs.Int.Signed.{shr_z}

-- ---- the copy in two parts

unfoldable pub high_of : ℤ → ℤ
high_of c = shr_z c 4096

unfoldable pub low_of : ℤ → ℤ
low_of c = c -ℤ pos 4096 *ℤ high_of c

-- a place of a part's transform: two passes of sixteen numbers times at most 2^14; and of the copy's
abbrev pub place_most : ℕ
place_most = 4095 * 2 ^ 36

abbrev pub copy_place_most : ℕ
copy_place_most = 4097 * place_most

-- the copy's from those of its parts
unfoldable pub place_of : (high low : Float) → ℤ
place_of high low = pos 4096 *ℤ to_signed 63 high +ℤ to_signed 63 low

-- ---- the step

-- the lines of plane p, from places w that are held by columns
abbrev pub lines_in : (w : List (List ℤ)) (p : ℕ) → ℕ → ℕ → ℤ
lines_in w p = transposed (plane_in (cell (pos 0) w) p)

-- both parts of the step in bin u of lane l, which is column l / 2 of plane l % 2, at V' of each lane
unfoldable pub lane_re : (noises : List ℕ) (w : List (List ℤ)) (u l : ℕ) → ℤ
lane_re noises w u l =
    copy_filtered side16 (get_or noises l 0) (tile_re (lines_in w (l % 2)) u (l / 2)) (tile_im (lines_in w (l % 2)) u (l / 2))

unfoldable pub lane_im : (noises : List ℕ) (w : List (List ℤ)) (u l : ℕ) → ℤ
lane_im noises w u l =
    copy_filtered side16 (get_or noises l 0) (tile_im (lines_in w (l % 2)) u (l / 2)) (tile_re (lines_in w (l % 2)) u (l / 2))

-- in bin (u, v) of plane p, at V' of each lane of rows up to 8
unfoldable pub pair_re : (noises : List (List ℕ)) (w : List (List ℤ)) (p u v : ℕ) → ℤ
pair_re noises w p u v = copy_filtered side16 (cell 0 noises (frequency u) (2 * v + p)) (tile_re (lines_in w p) u v) (tile_im (lines_in w p) u v)

unfoldable pub pair_im : (noises : List (List ℕ)) (w : List (List ℤ)) (p u v : ℕ) → ℤ
pair_im noises w p u v = copy_filtered side16 (cell 0 noises (frequency u) (2 * v + p)) (tile_im (lines_in w p) u v) (tile_re (lines_in w p) u v)
