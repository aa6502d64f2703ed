-- `tile_lines32_back::joined`: what the four kernels give makes the odd places' sum.
use Rattle.algebra.specs.Prelude.{rules}
use Rattle.tile_lines32_back.proofs.PartSums.{joined-doubles}
use Rattle.tile_lines32_back.proofs.joined as of

returns : of.Tie.Need-returns
returns c w = joined-doubles w

pub joined_spec : {M : Type 1} → of.Statement.statement M
joined_spec = of.Tie.close (of.Tie.spec
    (λ c. search rules) (λ c. search rules) (λ c. search rules) (λ c. search rules) (λ c. search rules) (λ c. search rules)
    (λ c. search rules) (λ c. search rules) (λ c. search rules) (λ c. search rules) (λ c. search rules) (λ c. search rules)
    (λ c. search rules) (λ c. search rules) (λ c. search rules) (λ c. search rules) (λ c. search rules) (λ c. search rules)
    (λ c. search rules) (λ c. search rules) (λ c. search rules) (λ c. search rules) (λ c. search rules) (λ c. search rules)
    (λ c. search rules) (λ c. search rules) (λ c. search rules) (λ c. search rules) (λ c. search rules) (λ c. search rules)
    (λ c. search rules) (λ c. search rules)
    returns)
