-- The reference's pyramid stays at the start of the work area while each other frame's vectors and sum are found: `Aligning` is the loop's invariant.
use Rattle.std.specs.Prelude.{◌-◌, ◌*◌, ◌≤◌}
use Rattle.algebra.specs.Prelude.{refl, ap, ◌∙◌, arith, rules}
use native.Mathlib.Nat.{mul-le-mul}
use Rattle.align_burst.specs.BurstLaws.{Aligning, aligning-start, aligning-turn, aligning-done, two-pyramids, frame-of, work-room, place-room}
use Rattle.align_burst.proofs.burst.align_frames as of

abbrev invariant-loop-k : of.Tie.invariant-loop-k
invariant-loop-k shape reference samples vectors₀ work₀ parts sums₀ rows₀ k₀ k-end vectors work sums rows k = (Aligning shape reference samples vectors₀ work₀ sums₀ k vectors work sums rows) × (k ≤ k-end)

abbrev decreases-loop-k : of.Tie.decreases-loop-k
decreases-loop-k shape reference samples vectors₀ work₀ parts sums₀ rows₀ k₀ k-end vectors work sums rows k = k-end - k

build-requires : of.Tie.Need-build-requires invariant-loop-k decreases-loop-k
build-requires c κs =
    let start = c.before.before in
    (frame-of start.requires.fits.burst start.requires.samples_fit _ start.requires.fits.burst.reference_below, omega (arith, two-pyramids start.args.shape (work-room start.requires.fits)))

frame-parts-requires : of.Tie.Need-frame_parts-parts-requires invariant-loop-k decreases-loop-k
frame-parts-requires c κs = let b = c.before.before.before.before.requires.fits.burst in (b.allowed, b.sided)

loop-holds : of.Tie.Need-loop-k-init invariant-loop-k decreases-loop-k
loop-holds c =
    let burst = c.before.before.before.before.before.before.requires.fits.burst in
    (aligning-start burst.vectors_long refl c.before.before.before.build.ensures.levels, omega arith)

mul-align-frame : of.Tie.Need-overflow_mul-k invariant-loop-k decreases-loop-k
mul-align-frame c =
    let loop = c.before.before.before in
    let start = loop.before.before.before.before.before.before.before in
    omega (arith, mul-le-mul {n₁ = loop.loop-k.k} {n₂ = 7} (omega (arith, start.requires.fits.burst.allowed.few)) loop.before.before.frame_parts-parts.ensures.1)

align-frame-requires : of.Tie.Need-align_frame-aligned-requires invariant-loop-k decreases-loop-k
align-frame-requires c κs =
    let loop = c.before.before.before.before in
    let start = loop.before.before.before.before.before.before.before in
    let burst = start.requires.fits.burst in
    let inv = loop.loop-k.invariant.0 in
    let few = burst.allowed.few in
    let same = inv.same in
    let long = inv.writing.same in
    let place = ap (λ n. loop.loop-k.k * n) loop.before.before.frame_parts-parts.ensures.0 in (
      record {
        readable = frame-of start.requires.fits.burst start.requires.samples_fit _ (omega (arith, c.before.before.other_frame-frame.ensures.1));
        sided = burst.sided;
        levels = inv.levels;
        room = omega (arith, work-room start.requires.fits, loop.before.before.before.before.build.ensures.same);
      },
      omega (arith, place, burst.vectors_long, place-room start.args.shape loop.loop-k.k (omega arith)),
    )

array-write-sums : of.Tie.Need-bounds-sums-k invariant-loop-k decreases-loop-k
array-write-sums c =
    let loop = c.before.before.before.before.before.before.before in
    let seven = loop.loop-k.invariant.0.filled.same in
    omega (arith, loop.before.before.before.before.before.before.before.requires.fits.burst.allowed.few)

add-rows : of.Tie.Need-overflow_add-rows invariant-loop-k decreases-loop-k
add-rows c =
    let loop = c.before.before.before.before.before.before.before.before in
    let few = loop.before.before.before.before.before.before.before.requires.fits.burst.allowed.few in
    omega (arith, few, loop.loop-k.invariant.0.counted.most, c.before.before.before.align_frame-aligned.ensures.few)

loop-again : of.Tie.Need-loop-k-preserved invariant-loop-k decreases-loop-k
loop-again c =
    let loop = c.before.before.before.before.before.before.before.before in
    let few = loop.before.before.before.before.before.before.before.requires.fits.burst.allowed.few in
    (aligning-turn loop.loop-k.invariant.0 (omega arith) (omega arith) c.before.before.before.before.before.before.other_frame-frame.ensures.0 (ap (λ n. loop.loop-k.k * n) loop.before.before.frame_parts-parts.ensures.0) c.before.before.before.align_frame-aligned.ensures, omega arith)

returns : of.Tie.Need-returns invariant-loop-k decreases-loop-k
returns c =
    let loop = c.before in
    let burst = loop.before.before.before.before.before.before.before.requires.fits.burst in
    let done = aligning-done burst.vectors_long refl (omega arith) loop.loop-k.invariant.0 in
    record { found = done.found; sums_are = done.sums_are; rows_are = done.rows_are; same = done.same ∙ loop.before.before.before.before.build.ensures.same }

pub align_frames_spec : {M : Type 1} → of.Statement.statement M
align_frames_spec = of.Tie.close (of.Tie.spec
    invariant-loop-k decreases-loop-k build-requires frame-parts-requires (λ c. search rules) loop-holds
    (λ c κs. search rules) mul-align-frame align-frame-requires (λ c. search rules)
    array-write-sums add-rows (λ c. search rules) (λ c. search rules) loop-again (λ c. search rules)
    (λ c. search rules) returns)
