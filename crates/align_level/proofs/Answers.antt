-- From the answer for a tile to that for a level's tile.
use mathlib.Core.Path.{◌≡◌, refl, ◌∙◌}
use Rattle.std.specs.Prelude.{◌+◌, ◌*◌, ◌≤◌}
use Rattle.align_level.specs.Prelude.{Bool, List, ℤ, ℕ, zero, suc, arith, lit≤, TileSide, Kind, Vector, Level, level3, Step, Tile, Found, still, Pair, best_vector, search_rows, candidate_rows, VectorField, answer}
use mathlib.Core.Logic.{inl, inr, ⊎_elim}
use native.Mathlib.Nat.{zero-add}
use Rattle.align_search.specs.RowLaws.{candidate-rows-most}
use Rattle.align_level.specs.Magnitudes.{tile_rows_most}
use Rattle.align_tile.specs.declared.Area.{Area}
use Rattle.align_level.specs.declared.Grid.{Grid}
use Rattle.align_level.specs.Grids.{finer_answer, answer_at, Answered}
use Rattle.align_level.specs.Fields.{level_at, level_tile, coarsest, from_coarse, finer}

-- the answer for a level's tile
module _ (l : Level) (p : Pair) (row column : ℕ) (t : Tile) (r : Found) (at : t ≡ level_tile l row column) where
  pub coarsest-answer : r ≡ answer l.squared p t (best_vector l.squared p t still) (0 + search_rows l.squared p t still) → r ≡ answer l.squared p (level_tile l row column) (coarsest l p row column) (search_rows l.squared p (level_tile l row column) still)
  unfolding coarsest
  coarsest-answer is = is ∙ rw (at, zero-add (search_rows l.squared p (level_tile l row column) still))

  pub finer-answer : (s : Step) (rows columns : ℕ) (coarse : VectorField) → r ≡ answer l.squared p t (best_vector l.squared p t (from_coarse s rows columns p t coarse row column)) (3 * t.side + search_rows l.squared p t (from_coarse s rows columns p t coarse row column)) → r ≡ answer l.squared p (level_tile l row column) (finer l s rows columns p coarse row column) (candidate_rows l.squared p (level_tile l row column) (from_coarse s rows columns p (level_tile l row column) coarse row column))
  unfolding finer candidate_rows
  finer-answer s rows columns coarse is = is ∙ rw at

-- level 3 has no coarse vectors; the others have
pub finer-at : (side level : ℕ) (words : List ℤ) (a : Area) (c : Grid) (row column : ℕ) (r : Found) → level ≤ 2 → Answered (finer_answer side level words a c row column) r → Answered (answer_at side level words a c row column) r
finer-at side zero words a c row column r h f = f
finer-at side (suc zero) words a c row column r h f = f
finer-at side (suc (suc zero)) words a c row column r h f = f
finer-at side (suc (suc (suc k))) words a c row column r h f = absurd (omega arith)

-- the tiles of level 3 have side 8
pub eight-side : (row column : ℕ) → (level_tile level3 row column).side ≡ 8
unfolding level_tile
eight-side row column = refl

-- those of the finer levels 16, or 32 at level 0 by absolute differences
pub finer-sided : (side level row column : ℕ) → TileSide side → level ≤ 2 → TileSide (level_tile (level_at side level) row column).side
unfolding level_tile
finer-sided side zero row column s h = s
finer-sided side (suc zero) row column s h = record { is = inl refl }
finer-sided side (suc (suc zero)) row column s h = record { is = inl refl }
finer-sided side (suc (suc (suc k))) row column s h = absurd (omega arith)

pub level-kind : (side level row column : ℕ) → TileSide side → Kind (level_at side level).squared (level_tile (level_at side level) row column).side
unfolding level_tile
level-kind side zero row column s = record { is = ⊎_elim (λ e. inl (record { is = inr e })) (λ e. inr (e, refl)) s.is }
level-kind side (suc zero) row column s = record { is = inl (record { is = inr refl }) }
level-kind side (suc (suc zero)) row column s = record { is = inl (record { is = inr refl }) }
level-kind side (suc (suc (suc k))) row column s = record { is = inl (record { is = inl (refl, refl) }) }

-- at most 32
pub side-most : (side level row column : ℕ) → TileSide side → (level_tile (level_at side level) row column).side ≤ 32
unfolding level_tile
side-most side zero row column s = ⊎_elim (λ e. omega (arith, e)) (λ e. omega (arith, e)) s.is
side-most side (suc zero) row column s = lit≤ tt
side-most side (suc (suc zero)) row column s = lit≤ tt
side-most side (suc (suc (suc k))) row column s = lit≤ tt

-- so few rows are summed for one
pub finer-few : (side level row column : ℕ) → TileSide side → level ≤ 2 → (squared : Bool) (p : Pair) (guess : Vector) → candidate_rows squared p (level_tile (level_at side level) row column) guess ≤ tile_rows_most
finer-few side level row column s h squared p guess =
    let t = level_tile (level_at side level) row column in
    ⊎_elim (λ e. omega (arith, e, candidate-rows-most squared p t guess)) (λ e. omega (arith, e, candidate-rows-most squared p t guess)) (finer-sided side level row column s h).is
