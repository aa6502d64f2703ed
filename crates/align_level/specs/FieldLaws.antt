-- A finer field depends on the coarse vectors that there are.
use Rattle.std.specs.Prelude.{◌≡◌, ◌<◌}
use Rattle.align_level.specs.Prelude.{ap, ℕ, arith, Level, Step, own, neighbour, capped, Pair, Tile, best_vector, VectorField}
use Rattle.align_level.specs.Fields.{level_tile, from_coarse, finer}

capped-below : (count index : ℕ) → 0 < count → capped count index < count
unfolding capped
capped-below count index h = omega arith

pub from-coarse-agree : (s : Step) (rows columns : ℕ) (p : Pair) (t : Tile) (f g : VectorField) → 0 < rows → 0 < columns → ((row column : ℕ) → row < rows → column < columns → f row column ≡ g row column) → (row column : ℕ) → from_coarse s rows columns p t f row column ≡ from_coarse s rows columns p t g row column
unfolding from_coarse
from-coarse-agree s rows columns p t f g hr hc e row column =
    let r = capped-below rows (own s.quotient row) hr in
    let r' = capped-below rows (neighbour s.quotient row) hr in
    let k = capped-below columns (own s.quotient column) hc in
    let k' = capped-below columns (neighbour s.quotient column) hc in
    rw (e _ _ r k, e _ _ r k', e _ _ r' k)

pub finer-agree : (l : Level) (s : Step) (rows columns : ℕ) (p : Pair) (f g : VectorField) → 0 < rows → 0 < columns → ((row column : ℕ) → row < rows → column < columns → f row column ≡ g row column) → (row column : ℕ) → finer l s rows columns p f row column ≡ finer l s rows columns p g row column
unfolding finer
finer-agree l s rows columns p f g hr hc e row column =
    ap (best_vector l.squared p (level_tile l row column)) (from-coarse-agree s rows columns p (level_tile l row column) f g hr hc e row column)
