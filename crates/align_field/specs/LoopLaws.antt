-- Laws of the loop over a level's tiles: they are few, and what is written from a place on leaves the images and the coarse vectors before it, and so
-- what is answered for a tile.
use Rattle.std.proofs.Math.Path.{fun_ext}
use Rattle.std.specs.Prelude.{◌≡◌, ◌+◌, ◌*◌, ◌/◌, ◌%◌, ◌≤◌, ◌<◌}
use Rattle.align_field.specs.Prelude.{◌∙◌, sym, ap, ap₂, subst, List, ℕ, zero, suc, arith, lit≤, ℤ, nat_abs, pair_in, Stored, field_at, Vectors, Led, answer_at, finer_answer, level3, level_at, level_tile, coarsest, finer, from_coarse, candidate_rows, search_rows}
use Rattle.std.proofs.Common.{mul-le-mul}
use Rattle.sequences.specs.Place.{row_below, column_below}
use Rattle.geometry.specs.ReadLaws.{cell_below}
use Rattle.align_pyramid.specs.WordsLaws.{Kept, kept-source, kept_read}
use Rattle.align_tile.specs.declared.Area.{Area}
use Rattle.align_field.specs.Magnitudes.{tiles_most}
use Rattle.align_field.specs.Loops.{Before, Few, Ends}
use Rattle.align_level.specs.declared.Grid.{Grid}
use Rattle.align_level.specs.Steps.{step_to}
use Rattle.align_level.specs.FieldLaws.{from-coarse-agree}
use Rattle.align_tile.specs.Stored.{answer}
use Rattle.align_search.specs.Search.{best_vector}
use Rattle.align_search.specs.Vectors.{still}

-- a level's tiles, and the place of each
pub tiles-few : {rows columns : ℕ} → Few rows columns → rows * columns ≤ tiles_most
tiles-few g = mul-le-mul g.few_rows g.few_columns

pub place-few : {rows columns : ℕ} → Few rows columns → (k : ℕ) → k < rows * columns → (k / columns ≤ 4096) × (k % columns ≤ 4096)
place-few {rows} {columns} g k h = (omega (arith, row_below k rows columns h), omega (arith, column_below k rows columns h))

-- the images
module _ {d l : List ℤ} {n : ℕ} (k : Kept d n l) (a : Area) (s : Stored d a) (b : Before a n) where
  pub kept-stored : Stored l a
  kept-stored = record { reference = kept-source k a.reference b.reference s.reference; other = kept-source k a.other b.other s.other }

  pub kept_pair : pair_in l a ≡ pair_in d a
  unfolding pair_in
  kept_pair =
      ap₂ (λ x y. record { height = a.reference.height; width = a.reference.width; reference = x; other = y })
      (fun_ext (λ row. fun_ext (kept_read k a.reference b.reference s.reference row)))
      (fun_ext (λ row. fun_ext (kept_read k a.other b.other s.other row)))

-- the coarse vectors
module _ {d l : List ℤ} {n : ℕ} (k : Kept d n l) (c : Grid) (before : c.at + 2 * (c.rows * c.columns) ≤ n) where
  pub kept-vectors : Vectors d c → Vectors l c
  kept-vectors v =
      record {
        some_rows = v.some_rows;
        some_columns = v.some_columns;
        room = omega (arith, k.same, v.room);
        most = λ j h. subst (λ z. nat_abs z ≤ 84) (sym (k.kept (c.at + j) (omega arith))) (v.most j h);
      }

  pub kept_field : (row column : ℕ) → row < c.rows → column < c.columns → field_at l c.at c.columns row column ≡ field_at d c.at c.columns row column
  unfolding field_at
  kept_field row column h m =
      let b = cell_below row column c.rows c.columns h m in
      ap₂ (λ x y. record { down = x; right = y })
      (k.kept (c.at + 2 * (row * c.columns + column)) (omega arith))
      (k.kept (c.at + 2 * (row * c.columns + column) + 1) (omega arith))

-- the answers
module _ {d l : List ℤ} {n : ℕ} (k : Kept d n l) (a : Area) (s : Stored d a) (b : Before a n) (side : ℕ) (c : Grid) where
  finer-same : (level : ℕ) → Vectors d c → c.at + 2 * (c.rows * c.columns) ≤ n → (row column : ℕ) → finer_answer side level l a c row column ≡ finer_answer side level d a c row column
  unfolding finer
  finer-same level v before row column =
      let q = (level_at side level).squared in
      let t = level_tile (level_at side level) row column in
      let g = from_coarse (step_to side level) c.rows c.columns in
      let p = pair_in d a in
      ap (λ p. let v = g p t (field_at l c.at c.columns) row column in answer q p t (best_vector q p t v) (candidate_rows q p t v)) (kept_pair k a s b)
      ∙ ap (λ v. answer q p t (best_vector q p t v) (candidate_rows q p t v)) (from-coarse-agree (step_to side level) c.rows c.columns p t (field_at l c.at c.columns) (field_at d c.at c.columns) v.some_rows v.some_columns (kept_field k c before) row column)

  pub kept-answer : (level : ℕ) → Led d level c → Ends level c n → (row column : ℕ) → answer_at side level l a c row column ≡ answer_at side level d a c row column
  kept-answer zero v e row column = finer-same 0 (v.vectors (lit≤ tt)) (e.end (lit≤ tt)) row column
  kept-answer (suc zero) v e row column = finer-same 1 (v.vectors (lit≤ tt)) (e.end (lit≤ tt)) row column
  kept-answer (suc (suc zero)) v e row column = finer-same 2 (v.vectors (lit≤ tt)) (e.end (lit≤ tt)) row column
  kept-answer (suc (suc (suc j))) v e row column =
      let t = level_tile level3 row column in
      ap (λ p. answer level3.squared p t (coarsest level3 p row column) (search_rows level3.squared p t still)) (kept_pair k a s b)
