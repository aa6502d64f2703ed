-- Two rows more where the tag 50714 stands.
use Rattle.algebra.specs.Prelude.{sym, ◌∙◌, rules}
use Rattle.file_dng.specs.Tags.Tags.{listed}
use Rattle.file_dng.proofs.tags.tags.listed as of

returns : of.Tie.Need-returns-then-has_black
unfolding listed
returns c = rw (sym c.has_black.ensures ∙ c.if-has_black.true)

returns-2 : of.Tie.Need-returns-else-has_black
unfolding listed
returns-2 c = rw (sym c.has_black.ensures ∙ c.if-has_black.false)

pub listed_spec : {M : Type 1} → of.Statement.statement M
listed_spec = of.Tie.close (of.Tie.spec (λ c κs. search rules) returns returns-2)
