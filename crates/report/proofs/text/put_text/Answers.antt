-- A count above the limit is a file that is too long.
use Rattle.std.proofs.Common.{arith, rules, sym, ◌∙◌, ◌≡◌, length, take, ◌<◌}
use lib.ListN.{length-take}
use Rattle.report.specs.Program.{file_most}
use Rattle.report.proofs.Files.{long-text}
use Rattle.report.proofs.text.put_text.Goals as goal

pub returns-then-count-gt-FILE_MOST : goal.returns-then-count-gt-FILE_MOST
returns-then-count-gt-FILE_MOST g c =
    let a = c.args in
    let room : length a.file.now ≡ 65537 = search rules in
    let long : file_most < length (take a.count a.file.now) = omega (arith, length-take a.count a.file.now, c.if-count-gt-FILE_MOST.true, room) in
    c.put.ensures ∙ sym (long-text (take a.count a.file.now) long g.P.Program.printed)
