-- The three tests as they stand.
use borrow.Author.Rules.{rules}
use Rattle.file_dng.specs.Tiff.Directory.{header_wrong}
use Rattle.file_dng.proofs.tiff.directory.header_wrong as of

returns : of.Tie.Need-returns
unfolding header_wrong
returns c = rw (c.short_at-order.ensures.0, c.short_at-version.ensures.0)

pub header_wrong_spec : {M : Type 1} → of.Statement.statement M
header_wrong_spec = of.Tie.close (of.Tie.spec (λ c κs. search rules) (λ c κs. search rules) returns)
