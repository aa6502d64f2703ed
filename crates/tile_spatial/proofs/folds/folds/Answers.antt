use Rattle.std.proofs.Common.{rules}
use Rattle.std.specs.Prelude.{◌/◌, ◌%◌}
use Rattle.tile_spatial.specs.Prelude.{pos, binary64, of_int, tab, grid, cell, spread, plane_in, doubles}
use Rattle.sequences.specs.MadeLaws.{made-tab}
use Rattle.tile_spatial.proofs.folds.folds.Goals as goal

pub returns : goal.returns
unfolding grid doubles
returns c =
    made-tab c.from_fn.ensures.items (λ b. tab 32 (λ l. of_int binary64 (spread (plane_in (cell (pos 0) c.args.g.now) (l % 2)) (plane_in (cell (pos 0) c.args.h.now) (l % 2)) (l / 2) b)))
    (λ b y q i d. search rules)
