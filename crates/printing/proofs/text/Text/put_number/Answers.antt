-- A number has at most 20 digits, which stand at the front.
use Rattle.std.proofs.Common.{rules}
use Rattle.printing.specs.PutLaws.{printed-front}
use Rattle.printing.proofs.text.Text.put_number.Goals as goal

pub returns : goal.returns
returns g c = search (rules, printed-front c.put_number-count.ensures.0)
