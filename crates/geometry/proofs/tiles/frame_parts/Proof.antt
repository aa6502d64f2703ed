-- Two parts for each tile are few.
use Rattle.std.specs.Prelude.{◌*◌}
use Rattle.algebra.specs.Prelude.{ap₂, arith, rules}
use native.Mathlib.Nat.{mul-le-mul}
use Rattle.geometry.proofs.tiles.frame_parts as of

mul-result : of.Tie.Need-overflow_mul-result
mul-result c = omega (arith, mul-le-mul c.before.tile_rows.ensures.1 c.tile_columns.ensures.1)

mul-result-2 : of.Tie.Need-overflow_mul-result-2
mul-result-2 c = omega (arith, mul-le-mul c.before.tile_rows.ensures.1 c.tile_columns.ensures.1)

returns : of.Tie.Need-returns
returns c =
    let rows = c.before.tile_rows.ensures in
    let columns = c.tile_columns.ensures in
    (ap₂ (λ a b. 2 * (a * b)) rows.0 columns.0, omega (arith, mul-le-mul rows.1 columns.1))

pub frame_parts_spec : {M : Type 1} → of.Statement.statement M
frame_parts_spec = of.Tie.close (of.Tie.spec
    (λ c κs. search rules) (λ c κs. search rules) mul-result mul-result-2 returns)
