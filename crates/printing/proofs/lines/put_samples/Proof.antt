-- Sample k of the part is put where what is left of the line starts with it.
use Rattle.std.specs.Prelude.{◌≡◌, ◌+◌, ◌-◌, ◌<◌}
use Rattle.printing.specs.Prelude.{rules, arith}
use lib.ListN.{length, get_or, take, drop, length-drop}
use lib.Seq.{length-take-le, get_or-take, get_or-drop}
use Rattle.printing.specs.LineLaws.{value-length}
use Rattle.printing.proofs.LentLining.{Lining, lining-start, lining-turn, lining-done}
use Rattle.printing.proofs.lines.put_samples as of

abbrev invariant-loop-k : of.Tie.invariant-loop-k
invariant-loop-k text₀ at samples from count next₀ k₀ text next k = (Lining 6 text₀ at (take count (drop from samples)) k text next) × (length (take count (drop from samples)) ≡ count)

abbrev decreases-loop-k : of.Tie.decreases-loop-k
decreases-loop-k text₀ at samples from count next₀ k₀ text next k = count - k

loop-holds : of.Tie.Need-loop-k-init invariant-loop-k decreases-loop-k
loop-holds c =
    let args = c.before.before.args in
    (lining-start (omega arith), length-take-le _ _ (omega (arith, length-drop args.from args.samples.now)))

cast-put-value : of.Tie.Need-overflow_cast-samples invariant-loop-k decreases-loop-k
cast-put-value c = let at-loop = c.before.before.before in omega (arith, c.shared_slice_known-in-loop-k-1.given (at-loop.before.before.before.args.from + at-loop.loop-k.k))

loop-again : of.Tie.Need-loop-k-preserved invariant-loop-k decreases-loop-k
loop-again c =
    let at-loop = c.before.before.before.before.before.before in
    let k = at-loop.loop-k.k in
    let args = at-loop.before.before.before.args in
    let h : k < args.count = omega arith in
    let sample = args.from + k in
    let short = value-length 4 (get_or args.samples.now sample 0) (args.count - (k + 1)) (omega (arith, c.before.before.before.shared_slice_known-in-loop-k-1.given sample)) in
    (lining-turn at-loop.loop-k.invariant.0 (omega arith) (rw (get_or-take, get_or-drop)) (omega arith) c.before.before.put_value-next.ensures.0 (omega arith), at-loop.loop-k.invariant.1)

returns : of.Tie.Need-returns invariant-loop-k decreases-loop-k
returns c = let d = lining-done c.before.loop-k.invariant.0 (omega arith) in (d.0, omega arith)

pub put_samples_spec : {M : Type 1} → of.Statement.statement M
put_samples_spec = of.Tie.close (of.Tie.spec
    invariant-loop-k decreases-loop-k loop-holds (λ c. search rules) (λ c. search rules) (λ c. search rules)
    cast-put-value (λ c. search rules) (λ c. search rules) (λ c κs. search rules)
    (λ c. search rules) (λ c. search rules) loop-again (λ c. search rules) returns)
