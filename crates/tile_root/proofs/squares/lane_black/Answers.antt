use Rattle.std.proofs.Common.{rules}
use borrow.Author.Tests.{eq-eqb, ne_eqb}
use Rattle.tile_root.specs.Lanes.{lane_black}
use Rattle.tile_root.proofs.squares.lane_black.Goals as goal

pub returns-then-l-eq0 : goal.returns-then-l-eq0
unfolding lane_black
returns-then-l-eq0 c = search (rules, eq-eqb)

pub returns-else-l-eq0 : goal.returns-else-l-eq0
unfolding lane_black
returns-else-l-eq0 c = search (rules, ne_eqb)
