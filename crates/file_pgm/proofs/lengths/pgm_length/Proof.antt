-- The test of the size, then the length.
use Rattle.algebra.specs.Prelude.{sym, ◌∙◌, rules}
use Rattle.file_pgm.specs.Form.{pgm_length}
use Rattle.file_pgm.specs.FormLaws.{sized}
use Rattle.file_pgm.proofs.lengths.pgm_length as of

returns : of.Tie.Need-returns-then-not-sizes_allowed
unfolding pgm_length
returns c = rw (sym c.sizes_allowed.ensures ∙ c.if-not-sizes_allowed.true)

file-length-requires : of.Tie.Need-file_length-requires
file-length-requires c κs = sized (sym c.sizes_allowed.ensures ∙ c.if-not-sizes_allowed.false)

returns-2 : of.Tie.Need-returns
unfolding pgm_length
returns-2 c =
    let tested = c.before in
    rw (sym tested.sizes_allowed.ensures ∙ tested.if-not-sizes_allowed.false) c.file_length.ensures.0

pub pgm_length_spec : {M : Type 1} → of.Statement.statement M
pgm_length_spec = of.Tie.close (of.Tie.spec (λ c κs. search rules) returns file-length-requires returns-2)
