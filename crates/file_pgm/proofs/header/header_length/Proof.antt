-- The digits of width and height, and ten bytes more.
use Rattle.std.specs.Prelude.{◌≡◌, ◌+◌}
use Rattle.algebra.specs.Prelude.{ℕ, arith, rules}
use lib.ListN.{length, length-append}
use Rattle.printing.specs.Decimal.{decimal}
use Rattle.file_pgm.specs.Header.Header.{pgm_header}
use Rattle.file_pgm.proofs.header.header_length as of

header-long : (width height : ℕ) → length (pgm_header width height) ≡ 10 + length (decimal width) + length (decimal height)
unfolding pgm_header
header-long width height = simp length-append (omega arith)

returns : of.Tie.Need-returns
returns c = (omega (arith, header-long c.args.width c.args.height), omega arith)

pub header_length_spec : {M : Type 1} → of.Statement.statement M
header_length_spec = of.Tie.close (of.Tie.spec
    (λ c κs. search rules) (λ c. search rules) (λ c κs. search rules) (λ c. search rules) returns)
