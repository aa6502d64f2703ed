use Rattle.std.proofs.Common.{rules}
use Rattle.std.specs.Prelude.{◌/◌, ◌%◌}
use Rattle.tile_spatial.specs.Prelude.{get_or, either}
use Rattle.sequences.specs.MadeLaws.{made-tab}
use Rattle.tile_spatial.proofs.lanes.lane_row.Goals as goal

pub returns : goal.returns
returns c = made-tab c.from_fn.ensures.items (λ l. get_or (either c.args.first.now c.args.second.now (l % 2)) (l / 2) 0) (λ l y q i d. search rules)
