-- Nine bins are added up.
use Rattle.std.specs.Prelude.{◌+◌, ◌-◌, ◌*◌, ◌%◌, ◌≤◌, ◌<◌}
use Rattle.algebra.specs.Prelude.{ℕ, arith, rules, lit<, get_or, w64}
use native.Mathlib.Nat.{mul-le-mul, mod-lt}
use mir.Val.{Fits}
use Rattle.sequences.specs.Sum.{Summed, sum-start, sum-turn, sum_done, sum-most}
use Rattle.range_pair.specs.Factors.{line_width, bin_width_most}
use Rattle.range_pair.proofs.widths.line_width as of

abbrev invariant-loop-v : of.Tie.invariant-loop-v
invariant-loop-v f re im x p sum₀ v₀ sum v =
    Summed (λ v. get_or f (2 * ((v * x) % 8)) 0 * get_or re (2 * v + p) 0 + get_or f (2 * ((v * x) % 8) + 1) 0 * get_or im (2 * v + p) 0) bin_width_most 9 v sum

abbrev decreases-loop-v : of.Tie.decreases-loop-v
decreases-loop-v f re im x p sum₀ v₀ sum v = 9 - v

product : (v x : ℕ) → v < 9 → x < 8 → v * x ≤ 56
product v x h l =
    let a : v ≤ 8 = omega arith in
    let b : x ≤ 7 = omega arith in
    mul-le-mul a b

sum_fits : {f : ℕ → ℕ} {i acc v : ℕ} → Summed f bin_width_most 9 i acc → i < 9 → v ≤ bin_width_most → Fits w64 (acc + v)
sum_fits {f} {i} w h l = omega (arith, w.most)

mul-k : of.Tie.Need-overflow_mul-k invariant-loop-v decreases-loop-v
mul-k c =
    let l = c in
    omega (arith, product l.loop-v.v l.args.x (omega arith) l.requires.x_below)

weighed-requires : of.Tie.Need-weighed-sum-requires invariant-loop-v decreases-loop-v
weighed-requires c κs =
    let l = c in
    let s = l in
    let v = l.loop-v.v in
    record { factors_most = s.requires.factored.at (v * s.args.x % 8) (mod-lt (v * s.args.x) (lit< tt)); first_most = s.requires.re_most.at (2 * v + s.args.p); second_most = s.requires.im_most.at (2 * v + s.args.p) }

add-sum : of.Tie.Need-overflow_add-sum invariant-loop-v decreases-loop-v
add-sum c = sum_fits c.loop-v.invariant (omega arith) c.weighed-sum.ensures.1

loop-again : of.Tie.Need-loop-v-preserved invariant-loop-v decreases-loop-v
loop-again c = sum-turn c.loop-v.invariant (omega arith) c.weighed-sum.ensures.0 c.weighed-sum.ensures.1

returns : of.Tie.Need-returns invariant-loop-v decreases-loop-v
unfolding line_width
returns c = (sum_done c.loop-v.invariant (omega arith), sum-most c.loop-v.invariant (omega arith))

pub line_width_spec : {M : Type 1} → of.Statement.statement M
line_width_spec = of.Tie.close (of.Tie.spec
    invariant-loop-v decreases-loop-v (λ c. sum-start) mul-k (λ c. search rules) (λ c. search rules) (λ c. search rules) (λ c. search rules)
    (λ c. search rules) (λ c. search rules) (λ c. search rules) (λ c. search rules) (λ c. search rules) (λ c. search rules)
    (λ c. search rules) (λ c. search rules) weighed-requires add-sum (λ c. search rules) (λ c. search rules) loop-again returns)
