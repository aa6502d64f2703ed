-- The place lies among the vectors, which are few.
use Rattle.std.specs.Prelude.{◌+◌, ◌*◌, ◌≤◌}
use Rattle.algebra.specs.Prelude.{ap₂, arith, rules}
use native.Mathlib.Nat.{mul-le-mul}
use Rattle.geometry.specs.Vectors.{vector_place}
use Rattle.geometry.specs.TileLaws.{sided-most}
use Rattle.geometry.specs.VectorLaws.{place-below}
use Rattle.geometry.proofs.vectors.vector_place as of

-- rows are few
row-most : (s : of.Tie.Start) → s.args.row ≤ 256
row-most s = omega (arith, s.requires.row_in, sided-most s.requires.sided s.args.shape.height s.requires.allowed.high.most)

mul-result : of.Tie.Need-overflow_mul-result
mul-result c = omega (arith, mul-le-mul {n₁ = c.before.args.k} {n₂ = 7} (omega arith) c.frame_parts.ensures.1)

mul-result-2 : of.Tie.Need-overflow_mul-result-2
mul-result-2 c = omega (arith, mul-le-mul {n₁ = c.before.before.args.row} {n₂ = 256} (row-most c.before.before) c.tile_columns.ensures.1)

add-result : of.Tie.Need-overflow_add-result
add-result c = omega (arith, mul-le-mul {n₁ = c.before.before.args.row} {n₂ = 256} (row-most c.before.before) c.tile_columns.ensures.1)

mul-result-3 : of.Tie.Need-overflow_mul-result-3
mul-result-3 c = omega (arith, mul-le-mul {n₁ = c.before.before.args.row} {n₂ = 256} (row-most c.before.before) c.tile_columns.ensures.1)

add-result-2 : of.Tie.Need-overflow_add-result-2
add-result-2 c =
    omega (arith, mul-le-mul {n₁ = c.before.before.args.k} {n₂ = 7} (omega arith) c.before.frame_parts.ensures.1, mul-le-mul {n₁ = c.before.before.args.row} {n₂ = 256} (row-most c.before.before) c.tile_columns.ensures.1)

returns : of.Tie.Need-returns
unfolding vector_place
returns c =
    let a = c.before.before.args in
    let p = c.before.before.requires in
    let is = ap₂ (λ n w. a.k * n + 2 * (a.row * w + a.column)) c.before.frame_parts.ensures.0 c.tile_columns.ensures.0 in
    (is, omega (arith, is, place-below a.shape a.k a.row a.column (omega arith) p.row_in p.column-in))

pub vector_place_spec : {M : Type 1} → of.Statement.statement M
vector_place_spec = of.Tie.close (of.Tie.spec
    (λ c κs. search rules) mul-result (λ c κs. search rules) mul-result-2 add-result mul-result-3
    add-result-2 returns)
