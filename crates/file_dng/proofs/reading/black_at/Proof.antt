-- Zeros where the tag does not stand.
use Rattle.algebra.specs.Prelude.{sym, ◌∙◌, rules}
use Rattle.file_dng.specs.Reading.{black_at}
use Rattle.file_dng.proofs.reading.black_at as of

returns : of.Tie.Need-returns-then-has_black
unfolding black_at
returns c = rw (sym c.has_black.ensures ∙ c.if-has_black.true) (c.short_at.ensures.0 ∙ rw (c.field-found.ensures.is, c.tag.ensures.0))

returns-2 : of.Tie.Need-returns
unfolding black_at
returns-2 c = rw (sym c.has_black.ensures ∙ c.if-has_black.false)

pub black_at_spec : {M : Type 1} → of.Statement.statement M
black_at_spec = of.Tie.close (of.Tie.spec
    (λ c κs. search rules) (λ c κs. search rules) (λ c κs. search rules) (λ c. search rules)
    (λ c. search rules) (λ c κs. search rules) (λ c. search rules) returns returns-2)
