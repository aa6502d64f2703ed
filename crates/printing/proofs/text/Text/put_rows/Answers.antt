-- A row's line is put where what is left of the frame begins with it.
use Rattle.std.proofs.Common.{arith, rules, refl, ℕ, ◌≡◌, ◌+◌, ◌-◌, ◌*◌}
use Rattle.std.proofs.Math.Nat.{zero-mul}
use native.Mathlib.Nat.{sub-zero}
use Rattle.printing.specs.Lines.{sample_rows}
use Rattle.printing.proofs.Lining.{next_row, fits, turn, done}
use Rattle.printing.proofs.text.Text.put_rows.Goals as goal

whole-width : (row width : ℕ) → row * width + width - row * width ≡ width
whole-width row width = omega arith

pub loop-row-init : goal.loop-row-init
loop-row-init g c = (record { joined = rw (sub-zero, zero-mul) refl }, omega arith)

pub put_samples-requires : goal.put_samples-requires
put_samples-requires g c =
    let next = next_row c.args.width c.args.height c.args.samples.now c.loop-row.row (omega arith) in
    (search rules, rw (whole-width c.loop-row.row c.args.width) (fits c.loop-row.invariant.0 next c.requires.room))

pub loop-row-preserved : goal.loop-row-preserved
loop-row-preserved g c =
    let next = next_row c.args.width c.args.height c.args.samples.now c.loop-row.row (omega arith) in
    (turn c.loop-row.invariant.0 next (rw (whole-width c.loop-row.row c.args.width) at c.put_samples.ensures), omega arith)

pub returns : goal.returns
unfolding sample_rows
returns g c =
    let none : c.args.height - c.loop-row.row ≡ 0 = omega arith in
    done c.loop-row.invariant.0 (rw none)
