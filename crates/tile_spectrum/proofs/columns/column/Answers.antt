use Rattle.std.proofs.Common.{rules}
use Rattle.sequences.specs.Grid.{cell}
use Rattle.sequences.specs.MadeLaws.{made-tab}
use Rattle.tile_spectrum.proofs.columns.column.Goals as goal

pub returns : goal.returns
returns g c o = made-tab c.from_fn.ensures.items (λ y. cell o c.args.t.now y c.args.l) (λ i y q l d. search rules)
