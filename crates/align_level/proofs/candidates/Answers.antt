-- The coarse indices and the three vectors are those of the definition.
use Rattle.std.specs.Prelude.{◌≡◌}
use Rattle.align_level.specs.Prelude.{Step, own, neighbour, capped, Tile, Vector, ◌times◌, Pair, guessed, VectorField, ap, ◌∙◌, ℕ}
use Rattle.geometry.specs.declared.tiles.Quotient.{Quotient}
use Rattle.align_level.specs.Fields.{from_coarse}
use Rattle.align_level.specs.Steps.{step_to}
use Rattle.align_level.specs.Grids.{field_at}
use Rattle.align_level.proofs.candidates.Goals as goal

made : (s : Step) (rows columns : ℕ) (p : Pair) (t : Tile) (field : VectorField) (row column : ℕ) (q : Quotient) (f r r' k k' : ℕ) (x y z : Vector) → q ≡ s.quotient → f ≡ s.factor → r ≡ capped rows (own q row) → r' ≡ capped rows (neighbour q row) → k ≡ capped columns (own q column) → k' ≡ capped columns (neighbour q column) → x ≡ field r k times f → y ≡ field r k' times f → z ≡ field r' k times f → guessed p t x y z ≡ from_coarse s rows columns p t field row column
unfolding from_coarse
made s rows columns p t field row column q f r r' k k' x y z eq ef er er' ek ek' ex ey ez = rw (ex, ey, ez, er, er', ek, ek', eq, ef)

pub returns : goal.returns
returns c =
    let a = c.args in
    let s = a.step in
    let g = s.coarse in
    record {
      guess = λ p t.
          made (step_to s.side s.level) g.rows g.columns p t (field_at a.words.now g.at g.columns) a.row a.column _ _ _ _ _ _ _ _ _
          c.quotient-q.ensures c.factor-f.ensures.0
          (c.capped-own_row.ensures.0 ∙ ap (capped g.rows) c.own.ensures)
          (c.capped-next_row.ensures.0 ∙ ap (capped g.rows) c.neighbour.ensures)
          (c.capped-own_column.ensures.0 ∙ ap (capped g.columns) c.own-2.ensures)
          (c.capped-next_column.ensures.0 ∙ ap (capped g.columns) c.neighbour-2.ensures)
          c.coarse_vector.ensures.0 c.coarse_vector-2.ensures.0 c.coarse_vector-3.ensures.0;
      own_near = c.coarse_vector.ensures.1;
      sideways_near = c.coarse_vector-2.ensures.1;
      vertically_near = c.coarse_vector-3.ensures.1;
    }
