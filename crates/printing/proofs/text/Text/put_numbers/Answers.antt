-- Value k is put where what is left of the line begins with it.
use Rattle.std.proofs.Common.{arith, rules, ap, refl}
use Rattle.std.proofs.Math.ListN.{drop_of_length-le}
use Rattle.printing.specs.Lines.{number_line}
use Rattle.printing.proofs.Lining.{next_value, fits, turn, done}
use Rattle.printing.proofs.text.Text.put_numbers.Goals as goal

pub loop-k-init : goal.loop-k-init
loop-k-init g c = (record { joined = refl }, omega arith)

pub put_value-requires : goal.put_value-requires
put_value-requires g c =
    let next = next_value c.args.numbers.now c.loop-k.k (omega arith) in
    (search rules, fits c.loop-k.invariant.0 next (search rules))

pub loop-k-preserved : goal.loop-k-preserved
loop-k-preserved g c =
    let next = next_value c.args.numbers.now c.loop-k.k (omega arith) in
    (turn c.loop-k.invariant.0 next c.put_value.ensures, omega arith)

pub returns : goal.returns
unfolding number_line
returns g c = done c.loop-k.invariant.0 (ap number_line (drop_of_length-le c.args.numbers.now (omega arith)))
