-- The reference's pyramid stays at the start of the work area while each other frame's residuals are found: `Measuring` is the loop's invariant.
use mathlib.Core.Path.{subst₂}
use Rattle.std.specs.Prelude.{◌≡◌, ◌+◌, ◌-◌, ◌*◌, ◌≤◌, ◌<◌}
use Rattle.align_measure.specs.Prelude.{sym, ap₂, ◌∙◌, ℕ, arith, rules, Shape, frame_tiles, residual_length}
use native.Mathlib.Nat.{mul-le-mul}
use Rattle.geometry.specs.Shape.{vector_length}
use Rattle.align_burst.specs.BurstLaws.{two-pyramids, frame-of, work-room}
use Rattle.align_measure.specs.FrameLaws.{word_room, vector-room, Measuring, measuring-start, measuring-turn, measuring-done}
use Rattle.align_measure.proofs.measure_frames as of

abbrev invariant-loop-k : of.Tie.invariant-loop-k
invariant-loop-k shape reference samples vectors residuals₀ work₀ tiles k₀ k-end residuals work k = (Measuring shape reference samples vectors residuals₀ work₀ k residuals work) × (k ≤ k-end)

abbrev decreases-loop-k : of.Tie.decreases-loop-k
decreases-loop-k shape reference samples vectors residuals₀ work₀ tiles k₀ k-end residuals work k = k-end - k

-- the k-th frame's vectors and words lie within the lent ones
rooms : (s : Shape) (k : ℕ) {at n m : ℕ} → at ≡ k * frame_tiles s → n ≡ vector_length s → m ≡ residual_length s → k < s.count - 1 → (2 * (at + frame_tiles s) ≤ n) × (at + frame_tiles s ≤ m)
rooms s k e vectors words h =
    (subst₂ (λ at n. 2 * (at + frame_tiles s) ≤ n) (sym e) (sym vectors) (vector-room s k h), subst₂ (λ at m. at + frame_tiles s ≤ m) (sym e) (sym words) (word_room s k h))

build-requires : of.Tie.Need-build-requires invariant-loop-k decreases-loop-k
build-requires c κs =
    let start = c.before.before.before in
    (frame-of start.requires.fits.burst start.requires.samples_fit _ start.requires.fits.burst.reference_below, omega (arith, two-pyramids start.args.shape (work-room start.requires.fits)))

tile-rows-requires : of.Tie.Need-tile_rows-requires invariant-loop-k decreases-loop-k
tile-rows-requires c κs = let b = c.requires.fits.burst in (b.allowed, b.sided)

tile-columns-requires : of.Tie.Need-tile_columns-requires invariant-loop-k decreases-loop-k
tile-columns-requires c κs = let b = c.requires.fits.burst in (b.allowed, b.sided)

mul-tiles : of.Tie.Need-overflow_mul-tiles invariant-loop-k decreases-loop-k
mul-tiles c = omega (arith, mul-le-mul c.tile_rows.ensures.1 c.tile_columns.ensures.1)

loop-holds : of.Tie.Need-loop-k-init invariant-loop-k decreases-loop-k
loop-holds c =
    let built = c.before.before.before.before in
    (measuring-start built.requires.residuals_long built.build.ensures.levels, omega arith)

mul-measure-frame : of.Tie.Need-overflow_mul-k invariant-loop-k decreases-loop-k
mul-measure-frame c =
    let loop = c.before.before.before in
    let columns = loop.before.before in
    let start = columns.before.before.before.before.before.before.before in
    omega (arith, mul-le-mul {n₁ = loop.loop-k.k} {n₂ = 7} (omega (arith, start.requires.fits.burst.allowed.few)) (mul-le-mul columns.tile_rows.ensures.1 columns.tile_columns.ensures.1))

measure-frame-requires : of.Tie.Need-measure_frame-requires invariant-loop-k decreases-loop-k
measure-frame-requires c κs =
    let loop = c.before.before.before.before in
    let columns = loop.before.before in
    let start = columns.before.before.before.before.before.before.before in
    let burst = start.requires.fits.burst in
    let inv = loop.loop-k.invariant.0 in
    let few = burst.allowed.few in
    let same = inv.same in
    let place = ap₂ (λ m n. loop.loop-k.k * (m * n)) columns.tile_rows.ensures.0 columns.tile_columns.ensures.0 in
    let room = rooms start.args.shape loop.loop-k.k place burst.vectors_long (inv.writing.same ∙ start.requires.residuals_long) (omega arith) in (
      record {
        readable = frame-of start.requires.fits.burst start.requires.samples_fit _ (omega (arith, c.other_frame-frame.ensures.1));
        sided = burst.sided;
        levels = inv.levels;
        room = omega (arith, work-room start.requires.fits, columns.build.ensures.same);
      },
      record { vectors_fit = start.requires.vectors_fit; vectors_room = room.0; room = room.1 },
    )

loop-again : of.Tie.Need-loop-k-preserved invariant-loop-k decreases-loop-k
loop-again c =
    let loop = c.before.before.before.before.before.before.before.before in
    let columns = loop.before.before in
    let place = ap₂ (λ m n. loop.loop-k.k * (m * n)) columns.tile_rows.ensures.0 columns.tile_columns.ensures.0 in
    (measuring-turn loop.loop-k.invariant.0 (omega arith) c.other_frame-frame.ensures.0 place c.measure_frame.ensures, omega arith)

returns : of.Tie.Need-returns invariant-loop-k decreases-loop-k
returns c =
    let loop = c.before in
    let built = loop.before.before.before.before.before in
    let done = measuring-done built.requires.residuals_long (omega arith) loop.loop-k.invariant.0 in
    record { found = done.found; same = done.same ∙ built.build.ensures.same }

pub measure_frames_spec : {M : Type 1} → of.Statement.statement M
measure_frames_spec = of.Tie.close (of.Tie.spec
    invariant-loop-k decreases-loop-k build-requires tile-rows-requires tile-columns-requires mul-tiles (λ c. search rules) loop-holds
    (λ c κs. search rules) mul-measure-frame measure-frame-requires (λ c. search rules) (λ c. search rules) loop-again
    (λ c. search rules) (λ c. search rules) returns)
