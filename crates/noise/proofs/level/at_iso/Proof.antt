-- The code's operations are those of the definition, and its constant is 100.
use borrow.Author.Rules.{rules}
use lib.Ieee.{of_bits, of_int}
use Rattle.noise.proofs.level.at_iso as of

returns : of.Tie.Need-returns
unfolding of_bits of_int
returns c = search rules

pub at_iso_spec : {M : Type 1} → of.Statement.statement M
at_iso_spec = of.Tie.close (of.Tie.spec (λ c. search rules) returns)
