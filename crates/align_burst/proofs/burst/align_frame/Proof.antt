-- The frame's pyramid is laid behind the reference's, and the levels' pairs of images are then those of the two frames.
use Rattle.algebra.specs.Prelude.{subst, arith, rules}
use Rattle.align_burst.specs.Prelude.{sample_at, pyramid_length, Built}
use Rattle.align_burst.specs.BurstLaws.{two-pyramids, both-standing, one-aligned}
use Rattle.align_burst.proofs.burst.align_frame as of

build-requires : of.Tie.Need-build-requires
build-requires c κs =
    let start = c.before.before.before in
    (start.requires.0.readable, omega (arith, two-pyramids start.args.shape start.requires.0.room, c.before.offset-at.ensures.0))

-- the frame's pyramid stands behind the reference's
built : (c : of.Tie.After-build) →
    let a = c.before.before.before.before.args in
    Built a.shape (sample_at a.shape a.samples.now a.frame) (pyramid_length a.shape) a.work.now c.build.new.work
built c =
    let a = c.before.before.before.before.args in
    subst (λ n. Built a.shape (sample_at a.shape a.samples.now a.frame) n a.work.now c.build.new.work) c.before.before.offset-at.ensures.0 c.build.ensures

align-levels-requires : of.Tie.Need-align_levels-requires
align-levels-requires c κs =
    let start = c.before.before.before.before.before.before.before in
    let b = built c.before.before.before in
    let same = b.same in
    let ok = start.requires.0.readable.sampled.allowed in
    (record { allowed = ok; sided = start.requires.0.sided; standing = both-standing ok start.requires.0.sided start.requires.0.levels b; room = omega (arith, start.requires.0.room) }, start.requires.1)

returns : of.Tie.Need-returns
returns c =
    let start = c.before.before.before.before.before.before.before.before.before.before in
    one-aligned start.requires.0.readable.sampled.allowed start.requires.0.sided start.requires.0.levels (built c.before.before.before.before.before.before) c.before.before.align_levels.ensures

pub align_frame_spec : {M : Type 1} → of.Statement.statement M
align_frame_spec = of.Tie.close (of.Tie.spec
    (λ c κs. search rules) build-requires align-levels-requires (λ c. search rules)
    (λ c. search rules) returns)
