use Rattle.std.proofs.Common.{rules}
use Rattle.sequences.specs.MadeLaws.{made-tab}
use Rattle.tile_spectrum.proofs.places.mapped_row.Goals as goal

pub returns : goal.returns
returns g c h e = made-tab c.from_fn.ensures.items h (λ i y q l d. search rules)
