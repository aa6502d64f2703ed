-- Each step fits 32 bits, and the low part 16.
use Rattle.algebra.specs.Prelude.{ap, ◌∙◌, w32}
use Rattle.tile_spectrum.specs.Lines.Held.{number_is, number-most}
use Rattle.tile_spatial.specs.Steps.{low_of}
use Rattle.tile_spatial.proofs.SplitLaws.{product-fits, difference-fits, low_fits, low_is}
use Rattle.tile_spatial.proofs.parts.low as of

-- Each step fits 32 bits, and the low part 16.

mul-result : of.Tie.Need-overflow_mul-result
mul-result c =
    product-fits (number-most w32 c.requires tt)

sub-result : of.Tie.Need-overflow_sub-result
sub-result c =
    difference-fits (number-most w32 c.requires tt)

returns : of.Tie.Need-returns
returns c =
    low_is (number-most w32 c.requires tt) ∙ ap low_of (number_is w32 c.requires tt)

pub low_spec : {M : Type 1} → of.Statement.statement M
low_spec = of.Tie.close (of.Tie.spec
    mul-result sub-result (λ c. low_fits (number-most w32 c.requires tt)) returns)
