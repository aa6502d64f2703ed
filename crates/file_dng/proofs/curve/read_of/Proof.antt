-- The code's constant is 4095.
use lib.Ieee.{of_bits, of_int}
use borrow.Author.Rules.{rules}
use Rattle.file_dng.proofs.curve.read_of as of

returns : of.Tie.Need-returns
unfolding of_bits of_int
returns c = rw c.double_of.ensures

pub read_of_spec : {M : Type 1} → of.Statement.statement M
read_of_spec = of.Tie.close (of.Tie.spec (λ c κs. search rules) returns)
