-- A pair a turn, each at its places of the row.
use Rattle.std.specs.Prelude.{◌≡◌, ◌+◌, ◌/◌}
use Rattle.merge_tiles.specs.Prelude.{ap, ◌∙◌, arith, scene_at}
use Rattle.std.proofs.Common.{le_refl}
use Rattle.merge_tiles.specs.Places.{pairs-in}
use Rattle.merge_tiles.specs.PairSizes.{lanes-most, pair-most, cleared}
use Rattle.merge_tiles.specs.Rows.{row_words}
use Rattle.merge_tiles.specs.StoreLaws.{store-start, store-turn, store-done}
use Rattle.merge_tiles.proofs.rows.row_by.Goals as goal

pub loop-column-init : goal.loop-column-init
unfolding scene_at
loop-column-init g c = record { ready = c.requires.ready; stored = store-start g.row.SIDE _ _ _ _ (omega (arith, c.slot-start.ensures)) }

pub tile_correction-requires : goal.tile_correction-requires
tile_correction-requires g c =
    let columns-are : c.tile_columns-columns.result ≡ c.args.burst.merge.shape.width / g.row.SIDE + 1 = c.tile_columns-columns.ensures.0 ∙ ap (λ n. c.args.burst.merge.shape.width / n + 1) c.requires.accepted.side_is in
    let most = pair-most g.met.C.Corrector.laws.size in
    let row = lanes-most g.met.C.Corrector.laws.size in (
      omega arith,
      (
        omega arith,
        record {
          ready = c.loop-column.invariant.ready;
          accepted = c.requires.accepted;
          sited = record { parity = c.requires.parity; row = c.requires.row-most; column = omega arith };
          cleared = cleared _ _ g.met.C.Corrector.laws.size.twice;
        },
      ),
    )

pub store_left-requires : goal.store_left-requires
unfolding scene_at row_words
store_left-requires g c =
    let columns-are : c.tile_columns-columns.result ≡ c.args.burst.merge.shape.width / g.row.SIDE + 1 = c.tile_columns-columns.ensures.0 ∙ ap (λ n. c.args.burst.merge.shape.width / n + 1) c.requires.accepted.side_is in
    let size = g.met.C.Corrector.laws.size in
    let most = pair-most size in
    let row = lanes-most size in
    let within = pairs-in size.sided c.args.burst.merge.shape.width c.loop-column.column (omega arith) in
    (omega arith, (omega arith, (omega (arith, c.slot-start.ensures.is, c.loop-column.invariant.stored.room, c.loop-column.invariant.stored.toward.same), size)))

pub store_right-requires : goal.store_right-requires
unfolding scene_at row_words
store_right-requires g c =
    let columns-are : c.tile_columns-columns.result ≡ c.args.burst.merge.shape.width / g.row.SIDE + 1 = c.tile_columns-columns.ensures.0 ∙ ap (λ n. c.args.burst.merge.shape.width / n + 1) c.requires.accepted.side_is in
    let size = g.met.C.Corrector.laws.size in
    let most = pair-most size in
    let row = lanes-most size in
    let within = pairs-in size.sided c.args.burst.merge.shape.width (c.args.burst.merge.shape.width / g.row.SIDE) (le_refl _) in
    (omega arith, (omega arith, (omega (arith, c.slot-start.ensures.is, c.loop-column.invariant.stored.room, c.loop-column.invariant.stored.toward.same, c.store_left.ensures.same), (omega arith, size))))

pub loop-column-preserved : goal.loop-column-preserved
unfolding scene_at
loop-column-preserved g c =
    let start_is = c.slot-start.ensures.is in
    let columns-are : c.tile_columns-columns.result ≡ c.args.burst.merge.shape.width / g.row.SIDE + 1 = c.tile_columns-columns.ensures.0 ∙ ap (λ n. c.args.burst.merge.shape.width / n + 1) c.requires.accepted.side_is in
    record {
      ready = c.tile_correction.ensures.ready;
      stored = store-turn g.row.SIDE _ _ _ _ g.met.C.Corrector.laws.size.sided c.requires.accepted.burst.allowed.wide.whole c.loop-column.invariant.stored (omega arith) c.tile_correction.ensures.taken
          (rw start_is at c.store_left.ensures) (rw start_is at c.store_right.ensures);
    }

pub returns : goal.returns
unfolding scene_at
returns g c =
    let columns-are : c.tile_columns-columns.result ≡ c.args.burst.merge.shape.width / g.row.SIDE + 1 = c.tile_columns-columns.ensures.0 ∙ ap (λ n. c.args.burst.merge.shape.width / n + 1) c.requires.accepted.side_is in
    store-done g.row.SIDE _ _ _ _ g.met.C.Corrector.laws.size.sided c.requires.accepted.burst.allowed.wide.whole c.loop-column.invariant.stored (omega arith)
