-- An entry has the tag.
use borrow.Author.Rules.{rules}
use Rattle.file_dng.specs.Tags.Tags.{has_black}
use Rattle.file_dng.proofs.tags.tags.has_black as of

returns : of.Tie.Need-returns
unfolding has_black
returns c = rw c.times.ensures

pub has_black_spec : {M : Type 1} → of.Statement.statement M
has_black_spec = of.Tie.close (of.Tie.spec (λ c κs. search rules) returns)
