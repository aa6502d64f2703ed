-- The index lies below the samples' length, which is small, and so does each step towards it.
use Rattle.std.specs.Prelude.{◌+◌, ◌*◌, ◌<◌}
use Rattle.algebra.specs.Prelude.{refl, ℕ, arith}
use native.Mathlib.Nat.{le_trans, mul-le-mul}
use Rattle.geometry.specs.declared.Shape.{Shape}
use Rattle.geometry.specs.Shape.{sample_length}
use Rattle.geometry.specs.Fits.{Allowed, Placed}
use Rattle.geometry.specs.ShapeLaws.{samples-most}
use Rattle.geometry.specs.Read.{sample_index}
use Rattle.geometry.specs.ReadLaws.{cell_below, index_below}
use Rattle.geometry.proofs.read.sample_index as of

module _ {s : Shape} {frame row column : ℕ} (a : (Allowed s) × (Placed s frame row column)) where
  rows : frame * s.height + row < 32768
  rows =
      le_trans
      (cell_below frame row s.count s.height a.1.frame_in a.1.row_in)
      (mul-le-mul {n₁ = s.count} {m₁ = s.height} {n₂ = 8} {m₂ = 4096} a.0.few a.0.high.most)

  below : sample_index s frame row column < sample_length s
  below = index_below _ _ _ _ a.1.frame_in a.1.row_in (le_trans a.1.column-in a.0.row_least)

  index : (frame * s.height + row) * s.pitch + column < 142606336
  unfolding sample_index sample_length
  index = le_trans below (samples-most a.0)

mul-result-2 : of.Tie.Need-overflow_mul-result-2
mul-result-2 c = omega (arith, index c.before.before.requires)

add-result-2 : of.Tie.Need-overflow_add-result-2
add-result-2 c = omega (arith, index c.before.before.requires)

returns : of.Tie.Need-returns
unfolding sample_index
returns c = (refl, below c.before.before.requires)

pub sample_index_spec : {M : Type 1} → of.Statement.statement M
sample_index_spec = of.Tie.close (of.Tie.spec
    (λ c. omega (arith, rows c.before.requires)) (λ c. omega (arith, rows c.before.requires))
    mul-result-2 add-result-2 returns)
