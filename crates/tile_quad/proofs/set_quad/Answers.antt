use Rattle.std.specs.Prelude.{◌/◌}
use Rattle.tile_quad.specs.Prelude.{PairedOf, nan}
use Rattle.tile_quad.proofs.Stores.{with-quad}
use Rattle.tile_quad.proofs.set_quad.Goals as goal

pub returns : goal.returns
returns g c = with-quad (g.row.SIDE / 2) (PairedOf g.row.SIDE nan) c.args.u c.args.l c.args.q _ c.requires.pair.even (λ r e. record { is = e }) c.requires.u_below c.requires.l_below c.requires.paired.is
