-- Half a side times the index, less half a side, is small.
use Rattle.std.specs.Prelude.{◌≡◌, ◌*◌, ◌≤◌, ◌-ℤ◌}
use Rattle.algebra.specs.Prelude.{sym, subst, ◌∙◌, ℕ, arith, rules, pos, w64, SFits, to_z}
use native.Mathlib.Nat.{mul-le-mul}
use mir.Facts.{to_z-of_z, to_z_pos}
use Rattle.algebra.specs.Bound.{AtMost, most_fits, sub-most}
use Rattle.geometry.specs.Tiles.{origin}
use Rattle.geometry.proofs.tiles.origin as of

-- what the call requires
abbrev Asked : (half index : ℕ) → Type 0
Asked half index = (half ≤ 16) × (index ≤ 4096)

product : {half index : ℕ} → Asked half index → half * index ≤ 65536
product {half} {index} a = mul-le-mul {n₁ = half} {m₁ = index} {n₂ = 16} {m₂ = 4096} a.0 a.1

-- the difference, as the machine has its operands
difference : {half index : ℕ} → Asked half index → to_z w64 (half * index) -ℤ to_z w64 half ≡ origin half index
unfolding origin
difference {half} {index} a = rw (to_z_pos w64 {n = half * index} (omega (arith, product a)), to_z_pos w64 {n = half} (omega arith))

small : {half index : ℕ} → Asked half index → AtMost 65552 (origin half index)
unfolding origin
small {half} {index} a =
    sub-most {a = 65536} {b = 16} {x = pos (half * index)} {y = pos half} (record { most = product a }) (record { most = a.0 })

difference-fits : {half index : ℕ} → Asked half index → SFits w64 (to_z w64 (half * index) -ℤ to_z w64 half)
difference-fits a = rw (difference a) (most_fits w64 _ 65552 (small a) tt)

cast-result : of.Tie.Need-overflow_cast-result
cast-result c = most_fits w64 _ 65536 (record { most = product c.requires }) tt

returns : of.Tie.Need-returns
returns c =
    let value = to_z-of_z (difference-fits c.requires) ∙ difference c.requires in
    (value, subst (AtMost 65552) (sym value) (small c.requires))

pub origin_spec : {M : Type 1} → of.Statement.statement M
origin_spec = of.Tie.close (of.Tie.spec
    (λ c. omega (arith, product c.requires)) cast-result (λ c. search rules)
    (λ c. difference-fits c.requires) returns)
