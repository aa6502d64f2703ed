-- The four samples' sum, by definition.
use Rattle.align_pyramid.specs.Bayer.Bayer.{bayer_sum}
use borrow.Author.Rules.{rules}
use Rattle.align_pyramid.proofs.bayer.square_sum as of

returns : of.Tie.Need-returns
unfolding bayer_sum
returns c = search rules

pub square_sum_spec : {M : Type 1} → of.Statement.statement M
square_sum_spec = of.Tie.close (of.Tie.spec
    (λ c. search rules) (λ c. search rules) (λ c κs. search rules) (λ c. search rules)
    (λ c. search rules) (λ c. search rules) (λ c κs. search rules) (λ c. search rules)
    (λ c. search rules) (λ c. search rules) (λ c κs. search rules) (λ c. search rules)
    (λ c. search rules) (λ c. search rules) (λ c. search rules) (λ c κs. search rules)
    (λ c. search rules) (λ c. search rules) (λ c. search rules) returns)
