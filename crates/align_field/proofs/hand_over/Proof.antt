-- A small part is cast without loss.
use Rattle.std.specs.Prelude.{◌≡◌, ◌≤◌}
use Rattle.algebra.specs.Prelude.{◌∙◌, rules, ℤ, nat_abs, w32, w64, SFits, to_z, of_z, to_z-of_z}
use Rattle.algebra.specs.Bound.{most_fits}
use Rattle.algebra.specs.Back.{back-small}
use Rattle.align_field.proofs.hand_over as of

fits : (z : ℤ) → nat_abs z ≤ 340 → SFits w32 (to_z w64 (of_z w64 z))
fits z h = rw (back-small z 340 h tt) (most_fits w32 z 340 (record { most = h }) tt)

narrow : (z : ℤ) → nat_abs z ≤ 340 → to_z w32 (of_z w32 (to_z w64 (of_z w64 z))) ≡ z
narrow z h = to_z-of_z (fits z h) ∙ back-small z 340 h tt

cast-down : of.Tie.Need-overflow_cast-down
cast-down c = fits c.before.before.args.v.down c.before.before.requires.1.vertical

cast-right : of.Tie.Need-overflow_cast-right
cast-right c = let s = c.before.before.before.before in fits s.args.v.right s.requires.1.sideways

returns : of.Tie.Need-returns
returns c = let s = c.before.before.before.before.before.before.before in
    rw (← narrow s.args.v.down s.requires.1.vertical, ← narrow s.args.v.right s.requires.1.sideways) c.before.set_parts.ensures

pub hand_over_spec : {M : Type 1} → of.Statement.statement M
hand_over_spec = of.Tie.close (of.Tie.spec
    cast-down cast-right (λ c κs. search rules) (λ c. search rules) returns)
