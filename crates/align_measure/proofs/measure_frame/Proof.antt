-- The frame's pyramid is laid behind the reference's, and the pair of images at level 0 is then that of the two frames.
use Rattle.std.specs.Prelude.{◌≡◌, ◌*◌}
use Rattle.align_measure.specs.Prelude.{ap, ap₂, subst, ◌∙◌, List, ℕ, arith, rules, ℤ, written, Shape, sample_at, tile_rows, tile_columns, frame_tiles, pyramid_length, Built, pair_in}
use Rattle.align_tile.specs.declared.Area.{Area}
use Rattle.align_burst.specs.BurstLaws.{two-pyramids, both-standing}
use Rattle.align_burst.specs.Sites.{area_at, pairs_in}
use Rattle.align_measure.specs.Frames.{residual_in}
use Rattle.align_measure.specs.FrameLaws.{frame-measured}
use Rattle.align_measure.proofs.measure_frame as of

build-requires : of.Tie.Need-build-requires
build-requires c κs =
    let start = c.before.before.before.before in
    (start.requires.0.readable, omega (arith, two-pyramids start.args.shape start.requires.0.room, c.before.offset-at.ensures.0))

-- the frame's pyramid stands behind the reference's
built : (c : of.Tie.After-build) →
    let a = c.before.before.before.before.before.args in
    Built a.shape (sample_at a.shape a.samples.now a.frame) (pyramid_length a.shape) a.work.now c.build.new.work
built c =
    let a = c.before.before.before.before.before.args in
    subst (λ n. Built a.shape (sample_at a.shape a.samples.now a.frame) n a.work.now c.build.new.work) c.before.before.offset-at.ensures.0 c.build.ensures

frame-residuals-requires : of.Tie.Need-frame_residuals-requires
frame-residuals-requires c κs =
    let columns = c.before in
    let rows = columns.before in
    let area = rows.before in
    let laid = area.before.before in
    let start = laid.before.before.before.before.before in
    let wide = columns.tile_columns-columns.ensures in
    let high = rows.tile_rows-rows.ensures in
    record {
      stored = rw area.area_at-area.ensures ((both-standing start.requires.0.readable.sampled.allowed start.requires.0.sided start.requires.0.levels (built laid)).stored 0);
      sided = start.requires.0.sided;
      few = record { some_columns = omega (arith, wide.0); few_rows = high.1; few_columns = wide.1 };
      lent = rw (high.0, wide.0) start.requires.1;
    }

told : (s : Shape) (l vectors : List ℤ) (to : ℕ) (e : List ℕ) {area : Area} {rows columns : ℕ} {e' : List ℕ} → e' ≡ written e to (residual_in s.side (pair_in l area) columns vectors to) (rows * columns) → area ≡ area_at s 0 → rows ≡ tile_rows s → columns ≡ tile_columns s → e' ≡ written e to (residual_in s.side (pairs_in s l 0) (tile_columns s) vectors to) (frame_tiles s)
unfolding pairs_in
told s l vectors to e {area} {rows} {columns} is a high wide =
    is
    ∙ ap (λ x. written e to (residual_in s.side (pair_in l x) columns vectors to) (rows * columns)) a
    ∙ ap₂ (λ m n. written e to (residual_in s.side (pair_in l (area_at s 0)) n vectors to) (m * n)) high wide

returns : of.Tie.Need-returns
returns c =
    let columns = c.before.before.before.before in
    let rows = columns.before in
    let area = rows.before in
    let laid = area.before.before in
    let start = laid.before.before.before.before.before in
    let a = start.args in
    frame-measured start.requires.0.readable.sampled.allowed start.requires.0.levels (built laid)
    (told a.shape laid.build.new.work a.vectors.now a.to a.residuals.now c.before.before.frame_residuals.ensures area.area_at-area.ensures rows.tile_rows-rows.ensures.0 columns.tile_columns-columns.ensures.0)

pub measure_frame_spec : {M : Type 1} → of.Statement.statement M
measure_frame_spec = of.Tie.close (of.Tie.spec
    (λ c κs. search rules) build-requires (λ c κs. search rules) (λ c κs. search rules) (λ c κs. search rules)
    frame-residuals-requires (λ c. search rules) (λ c. search rules) returns)
