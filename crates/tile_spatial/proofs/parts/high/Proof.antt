-- The high part fits 16 bits.
use Rattle.algebra.specs.Prelude.{ap, ◌∙◌, w16, w32}
use Rattle.tile_spectrum.specs.Lines.Held.{number_is, number-most, cast_fits, cast_is}
use Rattle.tile_spatial.specs.Steps.{high_of}
use Rattle.tile_spatial.proofs.SplitLaws.{high-at}
use Rattle.tile_spatial.proofs.parts.high as of

-- The high part fits 16 bits.

cast-result : of.Tie.Need-overflow_cast-result
unfolding high_of
cast-result c =
    cast_fits w32 w16 (high-at (number-most w32 c.requires tt)) tt tt

returns : of.Tie.Need-returns
unfolding high_of
returns c =
    cast_is w32 w16 (high-at (number-most w32 c.requires tt)) tt tt ∙ ap high_of (number_is w32 c.requires tt)

pub high_spec : {M : Type 1} → of.Statement.statement M
high_spec = of.Tie.close (of.Tie.spec cast-result returns)
