use Rattle.std.specs.Prelude.{◌%◌}
use Rattle.tile_wiener.specs.Prelude.{rules, nan, either}
use Rattle.sequences.specs.MadeLaws.{made-tab}
use Rattle.tile_wiener.proofs.alternating.Goals as goal

pub returns : goal.returns
returns g c = made-tab c.from_fn.ensures.items (λ l. either c.args.a c.args.b (l % 2)) (λ i y q h d. search rules)
