-- The sample at its index, which lies below the samples' length.
use borrow.Author.Rules.{rules}
use Rattle.geometry.specs.Read.{sample_at}
use Rattle.geometry.proofs.read.sample_at as of

returns : of.Tie.Need-returns
unfolding sample_at
returns c = rw c.before.sample_index-index.ensures.0

pub sample_at_spec : {M : Type 1} → of.Statement.statement M
sample_at_spec = of.Tie.close (of.Tie.spec
    (λ c κs. search rules) (λ c. search rules) (λ c. search rules) returns)
