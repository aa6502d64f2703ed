-- Each arm of the match at its type.
use native.Mathlib.Omega.{arith}
use borrow.Author.Tests.{ne_eqb}
use Rattle.file_dng.specs.Tiff.Fields.{size_of}
use Rattle.file_dng.proofs.tiff.fields.size_of as of

returns : of.Tie.Need-returns-in-1
unfolding size_of
returns c = (rw c.in-1.is, omega arith)

returns-2 : of.Tie.Need-returns-in-3
unfolding size_of
returns-2 c = (rw c.in-3.is, omega arith)

returns-3 : of.Tie.Need-returns-in-4
unfolding size_of
returns-3 c = (rw c.in-4.is, omega arith)

returns-4 : of.Tie.Need-returns-in-12
unfolding size_of
returns-4 c = (rw c.in-12.is, omega arith)

returns-5 : of.Tie.Need-returns-in_default
unfolding size_of
returns-5 c =
    let none = c.in_default.in_default-own.rest in
    (rw (ne_eqb _ 1 none.0.0.0.1, ne_eqb _ 3 none.0.0.1, ne_eqb _ 4 none.0.1, ne_eqb _ 12 none.1), omega arith)

pub size_of_spec : {M : Type 1} → of.Statement.statement M
size_of_spec = of.Tie.close (of.Tie.spec returns returns-2 returns-3 returns-4 returns-5)
