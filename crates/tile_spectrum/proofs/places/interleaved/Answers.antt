use Rattle.std.proofs.Common.{rules, ◌/◌, ◌%◌}
use Rattle.tile_spectrum.specs.Prelude.{cond, eqb, get_or}
use Rattle.sequences.specs.MadeLaws.{made-tab}
use Rattle.tile_spectrum.proofs.places.interleaved.Goals as goal

pub returns : goal.returns
returns g c z = made-tab c.from_fn.ensures.items (λ l. cond (eqb (l % 2) 0) (get_or c.args.e.now (l / 2) z) (get_or c.args.o.now (l / 2) z)) (λ l y q i d. search rules)
