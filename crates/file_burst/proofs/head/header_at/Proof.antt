-- `header_at`: seven calls, each from where the one before ended.
use Rattle.file_burst.specs.Head.Prelude.{rules, next_values}
use Rattle.file_burst.proofs.head.header_at as of

returns : of.Tie.Need-returns
unfolding next_values
returns c = cc

pub header_at_spec : {M : Type 1} → of.Statement.statement M
header_at_spec = of.Tie.close (of.Tie.spec
    (λ c κs. search rules) (λ c κs. search rules) (λ c κs. search rules) (λ c κs. search rules)
    (λ c κs. search rules) (λ c κs. search rules) (λ c κs. search rules) (λ c κs. search rules) returns)
