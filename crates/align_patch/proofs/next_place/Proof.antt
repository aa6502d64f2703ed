-- The last place of the period is followed by the first.
use borrow.Author.Tests.{eq-eqb, ne_eqb}
use Rattle.algebra.specs.Prelude.{rules}
use Rattle.align_patch.specs.Period.{next_in}
use Rattle.align_patch.proofs.next_place as of

returns : of.Tie.Need-returns-then-place-width
unfolding next_in
returns c = rw (eq-eqb _ _ c.if-place-width.true)

returns-2 : of.Tie.Need-returns
unfolding next_in
returns-2 c = rw (ne_eqb _ _ c.if-place-width.false)

pub next_place_spec : {M : Type 1} → of.Statement.statement M
next_place_spec = of.Tie.close (of.Tie.spec (λ c. search rules) (λ c. search rules) returns (λ c. search rules) returns-2)
