-- One sum over the rows.
use native.Mathlib.Nat.{mul-le-mul_right}
use Rattle.align_residual.specs.SixteenLaws.{compared-less}
use Rattle.align_residual.specs.Local.{square_row, square_sum}
use Rattle.align_residual.specs.Magnitudes.{pair_most}
use Rattle.sequences.specs.Sum.{Summed, sum-start, sum-turn, sum_done}
use Rattle.std.specs.Prelude.{◌-◌, ◌*◌, ◌≤◌}
use Rattle.algebra.specs.Prelude.{false, arith, rules}
use Rattle.align_residual.proofs.thirty_two.absolute_sum as of

abbrev invariant-loop-i : of.Tie.invariant-loop-i
invariant-loop-i tile window start stride sum₀ i₀ sum i = Summed (square_row false tile window start stride 32) pair_most 32 i sum

abbrev decreases-loop-i : of.Tie.decreases-loop-i
decreases-loop-i tile window start stride sum₀ i₀ sum i = 32 - i

-- no row lies beyond the last
place : (c : of.Tie.In-loop-i invariant-loop-i decreases-loop-i) → c.before.loop-i.i * c.before.before.before.before.args.stride ≤ 31 * c.before.before.before.before.args.stride
place c = mul-le-mul_right _ (omega arith)

mul-absolute-row-2 : of.Tie.Need-overflow_mul-i-in-loop-i invariant-loop-i decreases-loop-i
mul-absolute-row-2 c = omega (arith, place c, c.before.before.before.before.requires.1)

add-absolute-row : of.Tie.Need-overflow_add-start invariant-loop-i decreases-loop-i
add-absolute-row c = let s = c.before.before.before.before in omega (arith, place c, s.requires.0.window_low.room)

absolute-row-requires : of.Tie.Need-absolute_row-sum-requires invariant-loop-i decreases-loop-i
absolute-row-requires c κs = let s = c.before.before.before.before in compared-less s.requires.0 _ _ (omega arith) (omega (arith, place c))

loop-again : of.Tie.Need-loop-i-preserved invariant-loop-i decreases-loop-i
unfolding square_row
loop-again c = sum-turn c.before.before.loop-i.invariant (omega arith) c.absolute_row-sum.ensures.0 c.absolute_row-sum.ensures.1

returns : of.Tie.Need-returns invariant-loop-i decreases-loop-i
unfolding square_sum
returns c = let l = c.before.loop-i.invariant in (sum_done l (omega arith), omega (arith, l.most, l.count))

pub absolute_sum_spec : {M : Type 1} → of.Statement.statement M
absolute_sum_spec = of.Tie.close (of.Tie.spec
    invariant-loop-i decreases-loop-i (λ c. sum-start) (λ c. search rules) mul-absolute-row-2 add-absolute-row
    absolute-row-requires (λ c. search rules) (λ c. search rules) (λ c. search rules) loop-again
    returns)
