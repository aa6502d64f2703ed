use Rattle.std.proofs.Common.{rules}
use Rattle.std.proofs.iter.Serving.{serving}
use Rattle.tile_spectrum.specs.Prelude.{tab}
use Rattle.sequences.specs.Grid.{cell, grid}
use Rattle.sequences.specs.MadeLaws.{made-tab}
use Rattle.tile_spectrum.proofs.places.mapped.Goals as goal

pub from_fn-requires : goal.from_fn-requires
unfolding cell
from_fn-requires g c = grind serving

pub returns : goal.returns
unfolding cell grid
returns g c h e =
    made-tab c.from_fn.ensures.items (λ y. tab g.row.LANES (h y))
    (λ y r q b d.
    let row = d.met.1 (h y) (λ l p x m i k. e y l p x b (search rules) (search rules) k) in
    search rules)
