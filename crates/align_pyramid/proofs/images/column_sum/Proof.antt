-- The four values, weighed, are the column's sum by definition.
use Rattle.align_pyramid.specs.Prelude.{weighted, column_sum}
use borrow.Author.Rules.{rules}
use Rattle.align_pyramid.proofs.images.column_sum as of

returns : of.Tie.Need-returns
unfolding column_sum weighted
returns c = search rules

pub column_sum_spec : {M : Type 1} → of.Statement.statement M
column_sum_spec = of.Tie.close (of.Tie.spec
    (λ c κs. search rules) (λ c κs. search rules) (λ c κs. search rules) (λ c κs. search rules)
    (λ c κs. search rules) returns)
