-- The test is the definition's.
use mathlib.Core.Path.{refl}
use lib.Ieee.{nan_bits}
use Rattle.file_dng.proofs.curve.nan_pattern as of

returns : of.Tie.Need-returns
unfolding nan_bits
returns c = refl

pub nan_pattern_spec : {M : Type 1} → of.Statement.statement M
nan_pattern_spec = of.Tie.close (of.Tie.spec returns)
