-- Size, length and header, one after the other.
use Rattle.std.proofs.Common.{arith, sym, ◌∙◌, eq-eqb, ne_eqb}
use Rattle.file_pgm.specs.Prelude.{length}
use Rattle.file_pgm.specs.Form.{file_length}
use Rattle.file_pgm.specs.Reading.{formed}
use Rattle.file_pgm.specs.FormLaws.{sized}
use Rattle.file_pgm.proofs.reading.formed.Goals as goal

pub returns-then-not-sizes_allowed : goal.returns-then-not-sizes_allowed
unfolding formed
returns-then-not-sizes_allowed c = rw (sym c.sizes_allowed.ensures ∙ c.if-not-sizes_allowed.true)

pub file_length-requires : goal.file_length-requires
file_length-requires c = sized (sym c.sizes_allowed.ensures ∙ c.if-not-sizes_allowed.false)

pub header_differs-requires : goal.header_differs-requires
unfolding file_length
header_differs-requires c = omega (arith, c.file_length.ensures.0, c.if-bytes-file_length.true)

pub returns-then-bytes-file_length : goal.returns-then-bytes-file_length
unfolding formed
returns-then-bytes-file_length c =
    let args = c.args in
    rw (
      sym c.sizes_allowed.ensures ∙ c.if-not-sizes_allowed.false,
      eq-eqb (length args.bytes.now) (file_length args.width args.height) (c.if-bytes-file_length.true ∙ c.file_length.ensures.0),
      c.header_differs.ensures,
    )

pub returns-else-bytes-file_length : goal.returns-else-bytes-file_length
unfolding formed
returns-else-bytes-file_length c =
    let args = c.args in
    rw (
      sym c.sizes_allowed.ensures ∙ c.if-not-sizes_allowed.false,
      ne_eqb (length args.bytes.now) (file_length args.width args.height) (λ e. c.if-bytes-file_length.false (e ∙ sym c.file_length.ensures.0)),
    )
    (ne_eqb _ _ c.if-bytes-file_length.false)
