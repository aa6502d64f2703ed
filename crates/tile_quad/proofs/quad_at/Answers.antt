use Rattle.std.specs.Prelude.{◌≡◌, ◌*◌, ◌/◌}
use Rattle.tile_quad.specs.Prelude.{sym, cell}
use Rattle.tile_quad.specs.Lanes.{quad_at_of}
use Rattle.tile_quad.proofs.quad_at.Goals as goal

pub returns : goal.returns
unfolding quad_at_of cell
returns g c =
    let e : 2 * (g.row.SIDE / 2) ≡ g.row.SIDE = sym c.requires.0.even in
    rw e
