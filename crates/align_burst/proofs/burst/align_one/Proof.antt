-- The reference's pyramid is laid at the start of the work area, and the frame is aligned into vectors that are its own.
use Rattle.algebra.specs.Prelude.{◌∙◌, arith, rules}
use Rattle.align_burst.specs.BurstLaws.{two-pyramids, frame-of, frame-room}
use Rattle.align_burst.specs.OneFrameLaws.{frame-aligned}
use Rattle.align_burst.proofs.burst.align_one as of

build-requires : of.Tie.Need-build-requires
build-requires c κs =
    let start = c.before.before in
    (frame-of start.requires.burst start.requires.samples_fit _ start.requires.burst.reference_below, omega (arith, two-pyramids start.args.shape (frame-room start.requires.burst start.requires.room)))

align-frame-requires : of.Tie.Need-align_frame-requires
align-frame-requires c κs =
    let built = c.before.before.before.before in
    let start = built.before.before.before in
    let burst = start.requires.burst in (
      record {
        readable = frame-of burst start.requires.samples_fit _ (omega (arith, burst.allowed.few, start.requires.other_in, c.before.before.other_frame-frame.ensures.1));
        sided = burst.sided;
        levels = built.build.ensures.levels;
        room = omega (arith, frame-room burst start.requires.room, built.build.ensures.same);
      },
      omega (arith, start.requires.vectors_long),
    )

returns : of.Tie.Need-returns
returns c =
    let aligned = c.before.before in
    let other = aligned.before.before.before in
    let built = other.before.before in
    let start = built.before.before.before in
    let done = frame-aligned start.requires.other_in start.requires.vectors_long other.other_frame-frame.ensures.0 aligned.align_frame.ensures in
    record { found = done.found; sum_is = done.sum_is; rows_are = done.rows_are; same = done.same ∙ built.build.ensures.same }

pub align_one_spec : {M : Type 1} → of.Statement.statement M
align_one_spec = of.Tie.close (of.Tie.spec
    build-requires (λ c κs. search rules) align-frame-requires (λ c. search rules) (λ c. search rules) returns)
