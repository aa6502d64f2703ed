-- Sixteen lines are added up.
use Rattle.std.specs.Prelude.{◌+◌, ◌-◌, ◌*◌, ◌/◌, ◌%◌, ◌≤◌, ◌<◌}
use Rattle.algebra.specs.Prelude.{[], ℕ, arith, rules, lit<, get_or, w64}
use native.Mathlib.Nat.{mul-le-mul, mod-lt}
use mir.Val.{Fits}
use Rattle.sequences.specs.Sum.{Summed, sum-start, sum-turn, sum_done, sum-most}
use Rattle.range_pair.specs.Factors.{line_width, pair_width, line_width_most}
use Rattle.range_pair.proofs.widths.width as of

abbrev invariant-loop-u : of.Tie.invariant-loop-u
invariant-loop-u f re im y l sum₀ u₀ sum u = Summed (λ u. line_width (get_or f ((u * y) % 8) []) (get_or re u []) (get_or im u []) (l / 2) (l % 2)) line_width_most 16 u sum

abbrev decreases-loop-u : of.Tie.decreases-loop-u
decreases-loop-u f re im y l sum₀ u₀ sum u = 16 - u

product : (u y : ℕ) → u < 16 → y < 8 → u * y ≤ 105
product u y h l =
    let a : u ≤ 15 = omega arith in
    let b : y ≤ 7 = omega arith in
    mul-le-mul a b

sum_fits : {f : ℕ → ℕ} {i acc v : ℕ} → Summed f line_width_most 16 i acc → i < 16 → v ≤ line_width_most → Fits w64 (acc + v)
sum_fits {f} {i} w h l = omega (arith, w.most)

mul-k : of.Tie.Need-overflow_mul-k invariant-loop-u decreases-loop-u
mul-k c =
    let l = c in
    omega (arith, product l.loop-u.u l.args.y (omega arith) l.requires.y_below)

line-width-requires : of.Tie.Need-line_width-sum-requires invariant-loop-u decreases-loop-u
line-width-requires c κs =
    let l = c in
    let s = l in
    record {
      factored = s.requires.factored.line (l.loop-u.u * s.args.y % 8) (mod-lt (l.loop-u.u * s.args.y) (lit< tt));
      re_most = s.requires.re_most.line l.loop-u.u;
      im_most = s.requires.im_most.line l.loop-u.u;
      x_below = omega (arith, s.requires.l_below);
      p_below = omega arith;
    }

add-sum : of.Tie.Need-overflow_add-sum invariant-loop-u decreases-loop-u
add-sum c = sum_fits c.loop-u.invariant (omega arith) c.line_width-sum.ensures.1

loop-again : of.Tie.Need-loop-u-preserved invariant-loop-u decreases-loop-u
loop-again c = sum-turn c.loop-u.invariant (omega arith) c.line_width-sum.ensures.0 c.line_width-sum.ensures.1

returns : of.Tie.Need-returns invariant-loop-u decreases-loop-u
unfolding pair_width
returns c = (sum_done c.loop-u.invariant (omega arith), sum-most c.loop-u.invariant (omega arith))

pub width_spec : {M : Type 1} → of.Statement.statement M
width_spec = of.Tie.close (of.Tie.spec
    invariant-loop-u decreases-loop-u (λ c. sum-start) mul-k (λ c. search rules) (λ c. search rules) (λ c. search rules) (λ c. search rules)
    (λ c. search rules) (λ c. search rules) line-width-requires add-sum (λ c. search rules) (λ c. search rules) loop-again returns)
