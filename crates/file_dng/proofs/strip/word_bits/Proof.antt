-- After k turns the bits of the first k samples are gathered.
use Rattle.std.specs.Prelude.{◌+◌, ◌-◌, ◌*◌}
use Rattle.algebra.specs.Prelude.{refl, arith, rules}
use Rattle.refusals.specs.SeenLaws.{Seen, seen_start, seen-turn, seen_done}
use Rattle.file_dng.specs.Tiff.Bytes.{short}
use Rattle.file_dng.specs.Strip.Strip.{strip_sample}
use Rattle.file_dng.proofs.strip.word_bits as of

abbrev invariant-loop-k : of.Tie.invariant-loop-k
invariant-loop-k file from seen₀ k₀ seen k = Seen (strip_sample file from) 4095 64 k seen

abbrev decreases-loop-k : of.Tie.decreases-loop-k
decreases-loop-k file from seen₀ k₀ seen k = 64 - k

cast-low : of.Tie.Need-overflow_cast-low invariant-loop-k decreases-loop-k
cast-low c = omega (arith, c.shared_slice_known-1.given (c.args.from + 2 * c.loop-k.k))

cast-high : of.Tie.Need-overflow_cast-high invariant-loop-k decreases-loop-k
cast-high c = omega (arith, c.shared_slice_known-in-loop-k-1.given (c.args.from + 2 * c.loop-k.k + 1))

mul-seen : of.Tie.Need-overflow_mul-seen invariant-loop-k decreases-loop-k
mul-seen c = omega (arith, c.shared_slice_known-in-loop-k-1.given (c.args.from + 2 * c.loop-k.k + 1))

add-seen : of.Tie.Need-overflow_add-seen invariant-loop-k decreases-loop-k
add-seen c =
    let at = c.args.from + 2 * c.loop-k.k in
    omega (arith, c.shared_slice_known-in-loop-k-1.given (at + 1), c.shared_slice_known-in-loop-k-1.given at)

loop-again : of.Tie.Need-loop-k-preserved invariant-loop-k decreases-loop-k
unfolding strip_sample short
loop-again c = seen-turn 12 refl c.loop-k.invariant (omega arith)

returns : of.Tie.Need-returns invariant-loop-k decreases-loop-k
returns c = seen_done c.loop-k.invariant (omega arith)

pub word_bits_spec : {M : Type 1} → of.Statement.statement M
word_bits_spec = of.Tie.close (of.Tie.spec
    invariant-loop-k decreases-loop-k (λ c. seen_start) (λ c. search rules) (λ c. search rules) (λ c. search rules)
    cast-low (λ c. search rules) (λ c. search rules) (λ c. search rules) (λ c. search rules)
    cast-high mul-seen add-seen (λ c. search rules) (λ c. search rules) loop-again returns)
