use Rattle.std.proofs.Common.{rules}
use Rattle.sequences.specs.MadeLaws.{made-tab}
use Rattle.tile_root.specs.Lanes.{lane_black}
use Rattle.tile_root.proofs.squares.lane_blacks.Goals as goal

pub returns : goal.returns
returns g c = made-tab c.from_fn.ensures.items (lane_black c.args.first c.args.second) (λ i y q h d. search rules)
