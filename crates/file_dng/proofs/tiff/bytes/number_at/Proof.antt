-- Each arm of the match at its size.
use Rattle.algebra.specs.Prelude.{arith, rules}
use borrow.Author.Tests.{ne_eqb}
use Rattle.file_dng.specs.Tiff.Bytes.{number}
use Rattle.file_dng.proofs.tiff.bytes.number_at as of

returns : of.Tie.Need-returns-in-1
unfolding number
returns c = (rw c.in-1.is c.byte_at.ensures.0, omega arith)

returns-2 : of.Tie.Need-returns-in-2
unfolding number
returns-2 c = (rw c.in-2.is c.short_at.ensures.0, omega arith)

returns-3 : of.Tie.Need-returns-in-4
unfolding number
returns-3 c = (rw c.in-4.is c.long_at.ensures.0, omega arith)

returns-4 : of.Tie.Need-returns-in_default
unfolding number
returns-4 c =
    let none = c.in_default.in_default-own.rest in
    (rw (ne_eqb _ 1 none.0.0.1, ne_eqb _ 2 none.0.1, ne_eqb _ 4 none.1), omega arith)

pub number_at_spec : {M : Type 1} → of.Statement.statement M
number_at_spec = of.Tie.close (of.Tie.spec
    (λ c κs. search rules) (λ c κs. search rules) (λ c κs. search rules) returns returns-2 returns-3
    returns-4)
