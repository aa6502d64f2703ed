-- After k turns the first k words are made.
use Rattle.std.specs.Prelude.{◌+◌, ◌-◌, ◌*◌}
use Rattle.algebra.specs.Prelude.{refl, arith, rules, get_or}
use Rattle.sequences.specs.TabLaws.{Filled, fill_start, fill-turn, fill_done}
use Rattle.file_pgm.specs.Samples.Blocks.{words_from}
use Rattle.file_pgm.proofs.samples.words as of

abbrev invariant-loop-k : of.Tie.invariant-loop-k
invariant-loop-k bytes from block₀ k₀ block k = Filled (λ k. get_or bytes (from + 2 * k) 0 + get_or bytes (from + 2 * k + 1) 0 * 256) 64 k block₀ block

abbrev decreases-loop-k : of.Tie.decreases-loop-k
decreases-loop-k bytes from block₀ k₀ block k = 64 - k

cast-first : of.Tie.Need-overflow_cast-first invariant-loop-k decreases-loop-k
cast-first c = omega (arith, c.shared_slice_known-1.given (c.args.from + 2 * c.loop-k.k))

cast-second : of.Tie.Need-overflow_cast-second invariant-loop-k decreases-loop-k
cast-second c = omega (arith, c.shared_slice_known-in-loop-k-1.given (c.args.from + 2 * c.loop-k.k + 1))

mul-block : of.Tie.Need-overflow_mul-block invariant-loop-k decreases-loop-k
mul-block c = omega (arith, c.shared_slice_known-in-loop-k-1.given (c.args.from + 2 * c.loop-k.k + 1))

add-block : of.Tie.Need-overflow_add-block invariant-loop-k decreases-loop-k
add-block c =
    let at = c.args.from + 2 * c.loop-k.k in
    omega (arith, c.shared_slice_known-in-loop-k-1.given at, c.shared_slice_known-in-loop-k-1.given (at + 1))

loop-again : of.Tie.Need-loop-k-preserved invariant-loop-k decreases-loop-k
loop-again c = fill-turn c.loop-k.invariant (omega arith) refl

returns : of.Tie.Need-returns invariant-loop-k decreases-loop-k
unfolding words_from
returns c = fill_done c.loop-k.invariant (omega arith)

pub words_spec : {M : Type 1} → of.Statement.statement M
words_spec = of.Tie.close (of.Tie.spec
    invariant-loop-k decreases-loop-k (λ c. fill_start refl) (λ c. search rules) (λ c. search rules)
    (λ c. search rules) cast-first (λ c. search rules) (λ c. search rules) (λ c. search rules)
    (λ c. search rules) cast-second mul-block add-block (λ c. search rules) (λ c. search rules)
    (λ c. search rules) (λ c. search rules) loop-again returns)
