-- After k turns the bits of the first k bytes are gathered, those of low bytes as 0.
use Rattle.std.specs.Prelude.{◌-◌, ◌%◌, ◌+◌}
use Rattle.algebra.specs.Prelude.{refl, arith, rules, get_or}
use native.Mathlib.Nat.{mul-le-mul}
use Rattle.file_pgm.specs.Samples.Blocks.{high}
use Rattle.refusals.specs.SeenLaws.{Seen, seen_start, seen-turn, seen_done}
use Rattle.file_pgm.proofs.samples.high_bits as of

abbrev invariant-loop-k : of.Tie.invariant-loop-k
invariant-loop-k bytes from seen₀ k₀ seen k = Seen (high bytes from) 15 128 k seen

abbrev decreases-loop-k : of.Tie.decreases-loop-k
decreases-loop-k bytes from seen₀ k₀ seen k = 128 - k

mul-seen : of.Tie.Need-overflow_mul-seen invariant-loop-k decreases-loop-k
mul-seen c =
    let s = c.before.before.before in
    let k = c.loop-k.k in
    let byte = get_or s.args.bytes.now (s.args.from + k) 0 in
    omega (arith, mul-le-mul {n₁ = byte} {m₁ = 1 - k % 2} {n₂ = 255} {m₂ = 1} (omega (arith, c.shared_slice_known-1.given (s.args.from + k))) (omega arith))

loop-again : of.Tie.Need-loop-k-preserved invariant-loop-k decreases-loop-k
unfolding high
loop-again c = seen-turn 4 refl c.loop-k.invariant (omega arith)

returns : of.Tie.Need-returns invariant-loop-k decreases-loop-k
returns c = seen_done c.loop-k.invariant (omega arith)

pub high_bits_spec : {M : Type 1} → of.Statement.statement M
high_bits_spec = of.Tie.close (of.Tie.spec
    invariant-loop-k decreases-loop-k (λ c. seen_start) (λ c. search rules) (λ c. search rules) (λ c. search rules)
    (λ c. search rules) mul-seen (λ c. search rules) (λ c. search rules) loop-again returns)
