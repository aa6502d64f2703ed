-- `tile_lines32_double::joined`: the places from the four parts.
use Rattle.algebra.specs.Prelude.{rules}
use Rattle.tile_lines32_double.proofs.FourParts.{joined-are}
use Rattle.tile_lines32_double.proofs.joined as of

returns : of.Tie.Need-returns
returns c z w = joined-are z w.most w

pub joined_spec : {M : Type 1} → of.Statement.statement M
joined_spec = of.Tie.close (of.Tie.spec
    (λ c. search rules) (λ c. search rules) (λ c. search rules) (λ c. search rules) (λ c. search rules) (λ c. search rules) (λ c. search rules) (λ c. search rules)
    (λ c. search rules) (λ c. search rules) (λ c. search rules) (λ c. search rules) (λ c. search rules) (λ c. search rules) (λ c. search rules) (λ c. search rules)
    (λ c. search rules) (λ c. search rules) (λ c. search rules) (λ c. search rules) (λ c. search rules) (λ c. search rules) (λ c. search rules) (λ c. search rules)
    (λ c. search rules) (λ c. search rules) (λ c. search rules) (λ c. search rules) (λ c. search rules) (λ c. search rules) (λ c. search rules) (λ c. search rules)
    returns)
