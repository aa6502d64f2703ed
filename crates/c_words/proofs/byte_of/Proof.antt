-- Past the end there is none.
use Rattle.algebra.specs.Prelude.{sym, arith, rules}
use lib.ListN.{get_or-eq_default}
use Rattle.c_words.proofs.byte_of as of

returns-2 : of.Tie.Need-returns
returns-2 c = sym (get_or-eq_default c.before.args.text.now 0 {n = c.before.args.at} (omega arith))

pub byte_of_spec : {M : Type 1} → of.Statement.statement M
byte_of_spec = of.Tie.close (of.Tie.spec (λ c. search rules) (λ c. search rules) returns-2)
