-- `rounding::signed`: a number of 63 bits is itself as a signed one.
use Rattle.algebra.specs.Prelude.{rules, w64}
use mir.ValLaws.{to_z_pos}
use Rattle.rounding.proofs.signed as of

pub signed_spec : {M : Type 1} → of.Statement.statement M
signed_spec = of.Tie.close (of.Tie.spec (λ c. search rules) (λ c. to_z_pos w64 c.args.a c.requires))
