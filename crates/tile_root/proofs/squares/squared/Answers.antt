use Rattle.std.specs.Prelude.{◌≡◌, ◌≤◌}
use Rattle.std.proofs.Common.{arith, mul-le-mul}
use Rattle.tile_root.specs.Prelude.{◌∙◌, intensity}
use Rattle.tile_root.proofs.squares.squared.Goals as goal

pub returns : goal.returns
returns c =
    let e : c.from-x.result ≡ intensity c.args.black c.args.sample = c.from-x.ensures ∙ c.intensity.ensures in
    let h : c.from-x.result ≤ 4095 = omega arith in
    (rw e, omega (arith, mul-le-mul h h))
