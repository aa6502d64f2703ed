-- The end of the directory.
use borrow.Author.Rules.{rules}
use Rattle.file_dng.specs.Tiff.Directory.{directory_outside}
use Rattle.file_dng.proofs.tiff.directory.directory_outside as of

returns : of.Tie.Need-returns
unfolding directory_outside
returns c = rw (c.directory_start.ensures.0, c.entry_count.ensures.0)

pub directory_outside_spec : {M : Type 1} → of.Statement.statement M
directory_outside_spec = of.Tie.close (of.Tie.spec
    (λ c κs. search rules) (λ c. search rules) (λ c κs. search rules) (λ c. search rules)
    (λ c. search rules) returns)
