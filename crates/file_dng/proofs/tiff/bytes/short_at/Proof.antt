-- Two halves, the low one first.
use Rattle.algebra.specs.Prelude.{arith, rules}
use Rattle.file_dng.specs.Tiff.Bytes.{short}
use Rattle.file_dng.proofs.tiff.bytes.short_at as of

returns : of.Tie.Need-returns
unfolding short
returns c = (omega arith, omega arith)

pub short_at_spec : {M : Type 1} → of.Statement.statement M
short_at_spec = of.Tie.close (of.Tie.spec
    (λ c κs. search rules) (λ c. search rules) (λ c κs. search rules) (λ c. search rules)
    (λ c. search rules) returns)
