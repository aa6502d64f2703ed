-- The digits, then the byte that the test of `left` picks.
use Rattle.std.proofs.Common.{arith}
use Rattle.std.proofs.lemmas.Grind.{common_steps}
use Rattle.printing.specs.Lines.{value}
use Rattle.printing.proofs.text.Text.put_value.Goals as goal

pub put_number-requires : goal.put_number-requires
unfolding value
put_number-requires g c = grind (arith, common_steps)

pub put_byte-requires : goal.put_byte-requires
unfolding value
put_byte-requires g c = grind (arith, common_steps)

pub returns : goal.returns
unfolding value
returns g c = grind (arith, common_steps)
