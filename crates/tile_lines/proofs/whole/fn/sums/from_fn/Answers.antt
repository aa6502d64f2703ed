use Rattle.algebra.specs.Prelude.{ap₂, ◌∙◌, w16, to_z-of_z}
use Rattle.std.specs.Prelude.{◌+ℤ◌, ◌+◌}
use Rattle.algebra.specs.Bound.{add-fits}
use Rattle.tile_spectrum.specs.Lines.Held.{held-is, held-most}
use Rattle.tile_lines.proofs.whole.fn.sums.from_fn.Goals as goal

pub overflow_add-result-2 : goal.overflow_add-result-2
overflow_add-result-2 g c = let m = c.requires.2 in add-fits w16 _ _ 8190 8190 (held-most w16 m c.args.i tt) (held-most w16 m (c.args.i + g.row.HALF) tt) tt

pub returns : goal.returns
returns g c =
    let m = c.requires.2 in
    to_z-of_z (add-fits w16 _ _ 8190 8190 (held-most w16 m c.args.i tt) (held-most w16 m (c.args.i + g.row.HALF) tt) tt)
    ∙ ap₂ ◌+ℤ◌ (held-is w16 m c.args.i tt) (held-is w16 m (c.args.i + g.row.HALF) tt)
