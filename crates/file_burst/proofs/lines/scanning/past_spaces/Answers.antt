-- The first byte that is no space ends the loop.
use Rattle.std.proofs.Common.{◌≤◌, arith, sym, ◌∙◌, drop_of_length-le}
use Rattle.file_burst.specs.Lines.Prelude.{length}
use Rattle.file_burst.proofs.lines.Bytes.{spaces-on, spaces-off, spaces-end}
use Rattle.file_burst.proofs.lines.scanning.past_spaces.Goals as goal

pub returns-then-file-i-ne32 : goal.returns-then-file-i-ne32
returns-then-file-i-ne32 c = spaces-off c.args.file.now c.loop-i.i (omega arith) c.if-file-i-ne32.true ∙ c.loop-i.invariant

pub loop-i-preserved : goal.loop-i-preserved
loop-i-preserved c = spaces-on c.args.file.now c.loop-i.i (omega arith) c.if-file-i-ne32.false ∙ c.loop-i.invariant

-- behind the bytes nothing is left
pub returns : goal.returns
returns c =
    let file = c.args.file.now in
    let past : length file ≤ c.loop-i.i = omega arith in
    let end : length file ≤ length file = omega arith in
    drop_of_length-le file end ∙ sym (drop_of_length-le file past) ∙ spaces-end _ _ past ∙ c.loop-i.invariant
