-- The three tests as they stand.
use mathlib.Core.Path.{refl}
use Rattle.file_dng.specs.Tiff.Fields.{right}
use Rattle.file_dng.proofs.tiff.fields.right as of

returns : of.Tie.Need-returns
unfolding right
returns c = refl

pub right_spec : {M : Type 1} → of.Statement.statement M
right_spec = of.Tie.close (of.Tie.spec returns)
