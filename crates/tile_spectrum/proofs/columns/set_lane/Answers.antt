use Rattle.tile_spectrum.specs.Prelude.{ap, ◌∙◌, get_or, tab}
use Rattle.std.specs.Prelude.{set}
use Rattle.sequences.specs.Grid.{tab-of, set-tab}
use Rattle.tile_spectrum.proofs.columns.set_lane.Goals as goal

-- a row is the table of its numbers
pub returns : goal.returns
returns g c o =
    ap (λ r. set r c.args.l c.args.v) (tab-of o c.args.row.now ∙ ap (λ n. tab n (λ m. get_or c.args.row.now m o)) c.told-row)
    ∙ set-tab g.row.LANES (λ m. get_or c.args.row.now m o) c.args.l c.args.v
