-- Two halves, the low one first.
use Rattle.algebra.specs.Prelude.{arith, needs}
use Rattle.file_dng.specs.Tiff.Bytes.{eight}
use Rattle.file_dng.proofs.tiff.bytes.eight_at as of

returns : of.Tie.Need-returns
unfolding eight
returns c = omega arith

pub eight-at-spec : {M : Type 1} → of.Statement.statement M
eight-at-spec = of.Tie.close (of.Tie.spec
    (λ c κs. search needs) (λ c. search needs) (λ c κs. search needs) (λ c. search needs)
    (λ c. search needs) returns)
