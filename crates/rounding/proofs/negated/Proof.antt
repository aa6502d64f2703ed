-- `rounding::negated`: zero less a number of 63 bits.
use Rattle.algebra.specs.Prelude.{◌∙◌, rules, pos, w64, to_z-of_z}
use mir.ValLaws.{to_z_pos}
use Rattle.algebra.specs.Bound.{zero_minus}
use Rattle.rounding.proofs.Sign.{minus-fits}
use Rattle.rounding.proofs.negated as of

sub-result : of.Tie.Need-overflow_sub-result
sub-result c = rw (to_z_pos w64 c.args.a c.requires) (minus-fits (pos c.args.a) c.requires)

returns : of.Tie.Need-returns
returns c =
    let a = c.args.a in
    rw (to_z_pos w64 a c.requires) (to_z-of_z (minus-fits (pos a) c.requires) ∙ zero_minus (pos a))

pub negated_spec : {M : Type 1} → of.Statement.statement M
negated_spec = of.Tie.close (of.Tie.spec (λ c. search rules) sub-result returns)
