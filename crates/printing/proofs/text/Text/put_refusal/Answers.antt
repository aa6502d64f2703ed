-- The word, then the number as the last value of its line.
use Rattle.std.proofs.Common.{arith}
use Rattle.std.proofs.lemmas.Grind.{common_steps}
use Rattle.printing.specs.Lines.{value, refusal}
use Rattle.printing.proofs.text.Text.put_refusal.Goals as goal

pub put_bytes-requires : goal.put_bytes-requires
unfolding value refusal
put_bytes-requires g c = grind (arith, common_steps)

pub put_value-requires : goal.put_value-requires
unfolding value refusal
put_value-requires g c = grind (arith, common_steps)

pub returns : goal.returns
unfolding value refusal
returns g c = grind (arith, common_steps)
