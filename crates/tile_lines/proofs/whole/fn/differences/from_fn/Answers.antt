use Rattle.algebra.specs.Prelude.{ap₂, ◌∙◌, w16, to_z-of_z}
use Rattle.std.specs.Prelude.{◌-ℤ◌, ◌+◌}
use Rattle.algebra.specs.Bound.{sub-fits}
use Rattle.tile_spectrum.specs.Lines.Held.{held-is, held-most}
use Rattle.tile_lines.proofs.whole.fn.differences.from_fn.Goals as goal

pub overflow_sub-result : goal.overflow_sub-result
overflow_sub-result g c = let m = c.requires.2 in sub-fits w16 _ _ 8190 8190 (held-most w16 m c.args.i tt) (held-most w16 m (c.args.i + g.row.HALF) tt) tt

pub returns : goal.returns
returns g c =
    let m = c.requires.2 in
    to_z-of_z (sub-fits w16 _ _ 8190 8190 (held-most w16 m c.args.i tt) (held-most w16 m (c.args.i + g.row.HALF) tt) tt)
    ∙ ap₂ ◌-ℤ◌ (held-is w16 m c.args.i tt) (held-is w16 m (c.args.i + g.row.HALF) tt)
