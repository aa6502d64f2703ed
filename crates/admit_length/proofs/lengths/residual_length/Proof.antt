-- The tiles of the other frames are few.
use Rattle.std.specs.Prelude.{◌-◌, ◌*◌, ◌≤◌}
use Rattle.algebra.specs.Prelude.{ap₂, ℕ, arith, rules}
use native.Mathlib.Nat.{mul-le-mul}
use Rattle.admit_length.specs.Residuals.{residual_length}
use Rattle.admit_length.proofs.lengths.residual_length as of

most : (n rows columns : ℕ) → n ≤ 7 → rows ≤ 257 → columns ≤ 257 → n * (rows * columns) ≤ 462343
most n rows columns few high wide = mul-le-mul {n₁ = n} {m₁ = rows * columns} {n₂ = 7} {m₂ = 66049} few (mul-le-mul high wide)

mul-result : of.Tie.Need-overflow_mul-result
mul-result c = omega (arith, mul-le-mul c.before.tile_rows.ensures.1 c.tile_columns.ensures.1)

mul-result-2 : of.Tie.Need-overflow_mul-result-2
mul-result-2 c =
    let s = c.before.before.before in
    let n = s.args.shape.count - 1 in
    omega (arith, most n _ _ (omega (arith, s.requires.0.few)) c.before.tile_rows.ensures.1 c.tile_columns.ensures.1)

returns : of.Tie.Need-returns
unfolding residual_length
returns c =
    let s = c.before.before.before in
    let n = s.args.shape.count - 1 in
    let rows = c.before.tile_rows.ensures in
    let columns = c.tile_columns.ensures in
    (ap₂ (λ a b. n * (a * b)) rows.0 columns.0, most n _ _ (omega (arith, s.requires.0.few)) rows.1 columns.1)

pub residual_length_spec : {M : Type 1} → of.Statement.statement M
residual_length_spec = of.Tie.close (of.Tie.spec
    (λ c. search rules) (λ c κs. search rules) (λ c κs. search rules) mul-result mul-result-2 returns)
