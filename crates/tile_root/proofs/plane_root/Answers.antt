use Rattle.tile_root.specs.Prelude.{ap, ◌∙◌, arith, whole_root}
use Rattle.tile_root.specs.RootLaws.{root-most}
use Rattle.tile_root.proofs.plane_root.Goals as goal

-- The sum is at most (4095·side)².
pub returns : goal.returns
returns g c =
    let sum = c.plane_squares.ensures in
    (c.whole_root.ensures ∙ ap whole_root sum.0, rw c.whole_root.ensures (root-most (omega (arith, sum.1))))
