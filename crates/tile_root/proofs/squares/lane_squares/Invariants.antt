use Rattle.std.specs.Prelude.{◌≡◌}
use Rattle.tile_root.specs.Lanes.{lanes}
use Rattle.tile_root.proofs.squares.lane_squares.Given as goal

-- the sums so far are those of the rows passed
abbrev pub invariant-loop-row : goal.invariant-loop-row
invariant-loop-row g l = l.sum ≡ lanes g.row.LANES l.row-index l.black l.tile
