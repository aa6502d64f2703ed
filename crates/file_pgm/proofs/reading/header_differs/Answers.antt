-- The header of the size beside the bytes.
use Rattle.std.proofs.Common.{arith, ap, ◌∙◌}
use Rattle.file_pgm.specs.Prelude.{not, length}
use Rattle.file_pgm.specs.Reading.{differs}
use Rattle.file_pgm.specs.HeaderLaws.{not-starts}
use Rattle.file_pgm.proofs.reading.header_differs.Goals as goal

pub returns : goal.returns
returns c =
    let bytes = c.args.bytes.now in
    let front = c.as_bytes.ensures.text ∙ c.header_text-text.ensures.header in
    ap not c.starts_with.ensures.value ∙ not-starts _ bytes (omega (arith, ap length front, c.requires)) ∙ ap (λ text. differs text bytes) front
