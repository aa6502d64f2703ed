-- `tile_lines::back::unfolded`: the sum or the difference of two folded sums.
use Rattle.algebra.specs.Prelude.{rules}
use borrow.Author.Tests.{lt-ltb, le-ltb}
use Rattle.tile_lines.proofs.back.unfolded as of

pub unfolded_spec : {M : Type 1} → of.Statement.statement M
unfolded_spec = of.Tie.close (of.Tie.spec
    (λ c. search rules) (λ c. search rules) (λ c. search rules) (λ c. search rules) (λ c. search (rules, lt-ltb))
    (λ c. search rules) (λ c. search rules) (λ c. search rules) (λ c. search rules) (λ c. search (rules, le-ltb)))
