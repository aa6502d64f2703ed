-- A pair a turn, both ends of each at their places of the row.
use Rattle.std.specs.Prelude.{◌+◌, ◌*◌, ◌/◌, ◌≤◌}
use Rattle.range_tiles.specs.Prelude.{ℕ, refl, ap, ◌∙◌, arith, grid, scene_at, row_words}
use Rattle.sequences.specs.Tab.{tab}
use Rattle.merge_tiles.specs.Sixteen.{laws_of_16}
use Rattle.range_tiles.specs.EndRowLaws.{slot-most, ends-start, ends-turn, ends-done}
use Rattle.range_tiles.proofs.rows.end_row.Goals as goal

-- the words of the blocks of a row
width_of : (width : ℕ) → 512 * (width / 16) ≤ row_words 16 width
unfolding row_words
width_of width = omega arith

pub loop-column-init : goal.loop-column-init
unfolding scene_at
loop-column-init c = ends-start _ _ _ _ _ c.requires.room

pub tile_ends-requires : goal.tile_ends-requires
unfolding grid tab
tile_ends-requires c =
    let p = c.requires in
    let columns-are = c.tile_columns-columns.ensures.0 ∙ ap (λ n. c.args.burst.merge.shape.width / n + 1) p.accepted.side_is in
    record {
      accepted = p.accepted;
      upper_fits = p.upper_fits;
      sited = record { parity = p.parity; row = p.row-most; column = omega arith };
      cleared = record { greatest_is = refl; least_is = refl };
    }

pub store_left-requires : goal.store_left-requires
unfolding scene_at
store_left-requires c =
    let columns-are = c.tile_columns-columns.ensures.0 ∙ ap (λ n. c.args.burst.merge.shape.width / n + 1) c.requires.accepted.side_is in
    let words = width_of c.args.burst.merge.shape.width in
    (omega arith, (omega arith, (omega (arith, c.slot-start.ensures.in_area, c.requires.room, c.loop-column.invariant.toward.same), laws_of_16.size)))

pub store_right-requires : goal.store_right-requires
unfolding scene_at
store_right-requires c =
    let columns-are = c.tile_columns-columns.ensures.0 ∙ ap (λ n. c.args.burst.merge.shape.width / n + 1) c.requires.accepted.side_is in
    let words = width_of c.args.burst.merge.shape.width in
    (omega arith, (omega arith, (omega (arith, c.slot-start.ensures.in_area, c.requires.room, c.loop-column.invariant.toward.same, c.store_left.ensures.same), (omega arith, laws_of_16.size))))

pub store_left-requires-in-loop-column : goal.store_left-requires-in-loop-column
unfolding scene_at
store_left-requires-in-loop-column c =
    let columns-are = c.tile_columns-columns.ensures.0 ∙ ap (λ n. c.args.burst.merge.shape.width / n + 1) c.requires.accepted.side_is in
    let words = width_of c.args.burst.merge.shape.width in
    let second = slot-most 16 c.args.burst.merge.shape.width c.args.row in
    (omega arith, (omega arith, (omega (arith, c.least_slot-second.ensures, c.requires.room, c.loop-column.invariant.toward.same, c.store_left.ensures.same, c.store_right.ensures.same), laws_of_16.size)))

pub store_right-requires-in-loop-column : goal.store_right-requires-in-loop-column
unfolding scene_at
store_right-requires-in-loop-column c =
    let columns-are = c.tile_columns-columns.ensures.0 ∙ ap (λ n. c.args.burst.merge.shape.width / n + 1) c.requires.accepted.side_is in
    let words = width_of c.args.burst.merge.shape.width in
    let second = slot-most 16 c.args.burst.merge.shape.width c.args.row in
    (omega arith, (omega arith, (omega (arith, c.least_slot-second.ensures, c.requires.room, c.loop-column.invariant.toward.same, c.store_left.ensures.same, c.store_right.ensures.same, c.store_left-in-loop-column.ensures.same), (omega arith, laws_of_16.size))))

pub loop-column-preserved : goal.loop-column-preserved
unfolding scene_at
loop-column-preserved c =
    let columns-are = c.tile_columns-columns.ensures.0 ∙ ap (λ n. c.args.burst.merge.shape.width / n + 1) c.requires.accepted.side_is in
    let first = c.slot-start.ensures.is in
    let second = c.least_slot-second.ensures in
    ends-turn _ _ _ _ _ c.requires.accepted.burst.allowed.wide.whole c.loop-column.invariant (omega arith) c.tile_ends.ensures.greatests c.tile_ends.ensures.leasts
    (rw first at c.store_left.ensures) (rw first at c.store_right.ensures) (rw second at c.store_left-in-loop-column.ensures) (rw second at c.store_right-in-loop-column.ensures)

pub returns : goal.returns
unfolding scene_at
returns c =
    let columns-are = c.tile_columns-columns.ensures.0 ∙ ap (λ n. c.args.burst.merge.shape.width / n + 1) c.requires.accepted.side_is in
    ends-done _ _ _ _ _ c.requires.accepted.burst.allowed.wide.whole c.loop-column.invariant (omega arith)
