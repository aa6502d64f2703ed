-- The curve of each variant.
use borrow.Author.Rules.{rules}
use Rattle.noise.proofs.level.curve_of as of

pub curve_of_spec : {M : Type 1} → of.Statement.statement M
curve_of_spec = of.Tie.close (of.Tie.spec
    (λ c. search rules) (λ c. search rules) (λ c κs. search rules) (λ c. search rules) (λ c. cc))
