-- −1−k and k read the same index.
use Rattle.std.specs.Prelude.{◌≡◌, ◌*◌, ◌%◌}
use Rattle.algebra.specs.Prelude.{refl, ap, ◌∙◌, ℕ, rules, ℤ, pos, negsuc, to_z-of_z}
use lib.Signed.{mag}
use Rattle.geometry.specs.Read.{mirrored, inside}
use Rattle.geometry.proofs.read.inside as of

both_ways : (size : ℕ) (z : ℤ) → mirrored size (mag z % (2 * size)) ≡ inside size z
unfolding inside
both_ways size (pos k) = refl
both_ways size (negsuc k) = refl

returns : of.Tie.Need-returns
returns c =
    let a = c.before.before.args in
    let far = (rw (to_z-of_z c.before.before.ranges.z) at c.before.distance.ensures) in
    (c.mirrored.ensures.0 ∙ ap (λ k. mirrored a.size (k % (2 * a.size))) far ∙ both_ways a.size a.z, c.mirrored.ensures.1)

pub inside_spec : {M : Type 1} → of.Statement.statement M
inside_spec = of.Tie.close (of.Tie.spec (λ c κs. search rules) (λ c κs. search rules) returns)
