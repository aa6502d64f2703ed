-- The frames beside the reference are frames of the burst; what stands where in the list of vectors.
use Rattle.std.specs.Prelude.{◌≡◌, ◌+◌, ◌-◌, ◌*◌, ◌/◌, ◌%◌, ◌<◌}
use Rattle.algebra.specs.Prelude.{ap, ap₂, ◌∙◌, Bool, true, false, cond, ℕ, arith, ltb, get_or, pos}
use Rattle.sequences.specs.TabLaws.{get_d-tab}
use Rattle.sequences.specs.Place.{place-row, place-column}
use Rattle.geometry.specs.declared.Shape.{Shape}
use Rattle.geometry.specs.Shape.{vector_length}
use Rattle.geometry.specs.ReadLaws.{cell_below}
use Rattle.geometry.specs.Tiles.{tile_columns, tile_rows, frame_parts}
use Rattle.geometry.specs.Vectors.{other_frame, VectorField, numbered, part, word, word_of, vector_place, vector_list, down_at, right_at}

pub other-below : (reference k count : ℕ) → k < count - 1 → other_frame reference k < count
unfolding other_frame
other-below reference k count h = by (ltb k reference)
  where
    by : (b : Bool) → cond b k (k + 1) < count
    by true = omega arith
    by false = omega arith

-- a tile's two words
pub word-down : (columns : ℕ) (f : VectorField) (k : ℕ) → word columns f (2 * k) ≡ (numbered columns f k).down
unfolding word part
word-down columns f k =
    let e : 2 * k % 2 ≡ 0 = omega arith in
    let d : 2 * k / 2 ≡ k = omega arith in
    rw (e, d)

pub word-right : (columns : ℕ) (f : VectorField) (k : ℕ) → word columns f (2 * k + 1) ≡ (numbered columns f k).right
unfolding word part
word-right columns f k =
    let e : (2 * k + 1) % 2 ≡ 1 = omega arith in
    let d : (2 * k + 1) / 2 ≡ k = omega arith in
    rw (e, d)

-- word i of a frame's vectors
pub word-of : (s : Shape) (f : ℕ → VectorField) (k i : ℕ) → i < frame_parts s → word_of s f (k * frame_parts s + i) ≡ word (tile_columns s) (f k) i
unfolding word_of
word-of s f k i h = ap₂ (λ q r. word (tile_columns s) (f q) r) (place-row k i (frame_parts s) h) (place-column k i (frame_parts s) h)

module _ (s : Shape) (k row column : ℕ) (hk : k < s.count - 1) (hr : row < tile_rows s) (hc : column < tile_columns s) where
  abbrev tile : ℕ
  tile = row * tile_columns s + column

  tile-below : 2 * tile + 1 < frame_parts s
  tile-below = omega (arith, cell_below row column (tile_rows s) (tile_columns s) hr hc)

  -- a vector's place lies in the list
  pub place-below : vector_place s k row column + 1 < vector_length s
  unfolding vector_place vector_length
  place-below = omega (arith, cell_below k (2 * tile + 1) (s.count - 1) (frame_parts s) hk tile-below)

  module _ (f : ℕ → VectorField) where
    list_at : (i : ℕ) → i < frame_parts s → get_or (vector_list s f) (k * frame_parts s + i) (pos 0) ≡ word (tile_columns s) (f k) i
    unfolding vector_list vector_length
    list_at i h =
        get_d-tab (word_of s f) (pos 0) (vector_length s) (k * frame_parts s + i) (cell_below k i (s.count - 1) (frame_parts s) hk h)
        ∙ word-of s f k i h

    tile_is : numbered (tile_columns s) (f k) tile ≡ f k row column
    tile_is = ap₂ (f k) (place-row row column (tile_columns s) hc) (place-column row column (tile_columns s) hc)

    -- and holds the field's vector
    pub list-down : down_at s (vector_list s f) k row column ≡ (f k row column).down
    unfolding down_at vector_place
    list-down = list_at (2 * tile) (omega (arith, tile-below)) ∙ word-down (tile_columns s) (f k) tile ∙ ap (λ v. v.down) tile_is

    pub list_right : right_at s (vector_list s f) k row column ≡ (f k row column).right
    unfolding right_at vector_place
    list_right =
        ap (λ i. get_or (vector_list s f) i (pos 0)) (omega arith)
        ∙ list_at (2 * tile + 1) tile-below
        ∙ word-right (tile_columns s) (f k) tile
        ∙ ap (λ v. v.right) tile_is
