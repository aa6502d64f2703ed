-- Tiles of a level: their sides, counts and origins, and the coarse tiles that a tile's candidates come from.
use Rattle.algebra.specs.Prelude.{Bool, true, false, cond, eqb, ℤ, pos}
use Rattle.std.specs.Prelude.{ℕ, zero, suc, ◌+◌, ◌-◌, ◌*◌, ◌/◌, min, ◌-ℤ◌}
use Rattle.geometry.specs.declared.Shape.{Shape}
use Rattle.geometry.specs.declared.tiles.Quotient.{Quotient}
use Rattle.geometry.specs.declared.tiles.Quotient.TheVariants.{One, Two, Four}

-- What goes with a level. `scale`: one of its samples stands for that many of the frame's, each way. A vector part found at it is at most `bound`
pub record Level : Type 0 where
  pub scale : ℕ
  pub side : ℕ
  pub half : ℕ
  pub squared : Bool
  pub bound : ℕ

-- "Level 0: the sum of each 2 by 2 Bayer square. Level 1 halves it; level 2 is a quarter of level 1, level 3 a quarter of level 2";
-- "Tiles have side 16 (8 at level 3) and half step s = 8 (4)"; "side 32 at level 0 and in the merge, half step 16; the levels above keep their tiles"
-- (request L8); "squared differences at levels 3 to 1, absolute at level 0"
abbrev pub finest_level : (side : ℕ) → Level
finest_level side = record { scale = 2; side = side; half = side / 2; squared = false; bound = 172 }

-- where its size alone is asked for, which is the same with either side
abbrev pub level0 : Level
level0 = finest_level 16

abbrev pub level1 : Level
level1 = record { scale = 4; side = 16; half = 8; squared = true; bound = 84 }

abbrev pub level2 : Level
level2 = record { scale = 16; side = 16; half = 8; squared = true; bound = 20 }

abbrev pub level3 : Level
level3 = record { scale = 64; side = 8; half = 4; squared = true; bound = 4 }

-- a level's size, of a frame's
unfoldable pub level_size : Level → ℕ → ℕ
level_size l size = size / l.scale

-- The step from a level to the next finer one: "each direction has f and q"
pub record Step : Type 0 where
  pub factor : ℕ
  pub quotient : Quotient

-- "f = 2, q = 2 from level 1 to 0; f = 4, q = 4 from 2 to 1; f = 4, q = 2 from 3 to 2": level 1's tiles lie 16 of level 0's samples apart, so that
-- "From level 1 to 0, q is then 1" where the side is 32 (request L8)
abbrev pub finest_step : (side : ℕ) → Step
finest_step side = record { factor = 2; quotient = cond (eqb side 32) One Two }

abbrev pub step2to1 : Step
step2to1 = record { factor = 4; quotient = Four }

abbrev pub step3to2 : Step
step3to2 = record { factor = 4; quotient = Two }

-- "Indices run from 0 to ceil(size/s)": how many there are
unfoldable pub tile_count : (half size : ℕ) → ℕ
tile_count half size = (size + (half - 1)) / half + 1

-- "(W/16+1)·(H/16+1)", or "(W/32+1)·(H/32+1)" (request L8): the columns and the rows of level 0's tiles (`finest-tiles`, TileLaws)
abbrev pub tile_columns : Shape → ℕ
tile_columns s = s.width / s.side + 1

abbrev pub tile_rows : Shape → ℕ
tile_rows s = s.height / s.side + 1

-- how many parts the vectors of one frame have, two for each tile
abbrev pub frame_parts : Shape → ℕ
frame_parts s = 2 * (tile_rows s * tile_columns s)

-- "origin −s + s·index"
unfoldable pub origin : (half index : ℕ) → ℤ
origin half index = pos (half * index) -ℤ pos half

-- "Own coarse index of a" and "the neighbour", by the remainder of a divided by q, as docs/NEIGHBOURS.md draws them: a fine tile so many past the coarse tile m,
-- fewer than q, lies between m and m + 1. The nearer one is its own, the other one its neighbour; half way, the later one is its own. One that lies q or more
-- past m is counted from m + 1.
-- q = 2: two remainders
unfoldable pub own2 : (past m : ℕ) → ℕ
own2 zero m = m
own2 (suc zero) m = m + 1
own2 (suc (suc r)) m = own2 r (m + 1)

unfoldable pub neighbour2 : (past m : ℕ) → ℕ
neighbour2 zero m = m + 1
neighbour2 (suc zero) m = m
neighbour2 (suc (suc r)) m = neighbour2 r (m + 1)

-- q = 4: four remainders
unfoldable pub own4 : (past m : ℕ) → ℕ
own4 zero m = m
own4 (suc zero) m = m
own4 (suc (suc zero)) m = m + 1
own4 (suc (suc (suc zero))) m = m + 1
own4 (suc (suc (suc (suc r)))) m = own4 r (m + 1)

unfoldable pub neighbour4 : (past m : ℕ) → ℕ
neighbour4 zero m = m + 1
neighbour4 (suc zero) m = m + 1
neighbour4 (suc (suc zero)) m = m
neighbour4 (suc (suc (suc zero))) m = m
neighbour4 (suc (suc (suc (suc r)))) m = neighbour4 r (m + 1)

-- every tile lies so many past the coarse tile 0; q = 1 (request L8) has no remainder but 0
unfoldable pub own : Quotient → (a : ℕ) → ℕ
own One a = a
own Two a = own2 a 0
own Four a = own4 a 0

unfoldable pub neighbour : Quotient → (a : ℕ) → ℕ
neighbour One a = a + 1
neighbour Two a = neighbour2 a 0
neighbour Four a = neighbour4 a 0

-- "Both are capped at the last index."
unfoldable pub capped : (count index : ℕ) → ℕ
capped count index = min index (count - 1)
