-- Bounds of lines and of tiles: those of what a table holds.
use Rattle.tile_spectrum.specs.Lines.Prelude.{List, [], ℤ, pos, nat_abs, get_or, tab}
use Rattle.std.specs.Prelude.{ℕ, length, ◌≡◌, ◌≤◌, ◌<◌}
use Rattle.std.proofs.Common.{arith, zero-le}
use Rattle.std.proofs.lemmas.List.{get_or_default}
use Rattle.sequences.specs.TabLaws.{tab-every}
use Rattle.sequences.specs.Grid.{grid, cell}
use Rattle.tile_spectrum.specs.Lines.Lines.{LineMost, TileMost}

pub line-most : (b : ℕ) (f : ℕ → ℤ) → ((i : ℕ) → nat_abs (f i) ≤ b) → (n : ℕ) → LineMost b (tab n f)
line-most b f h n = record { at = tab-every (λ z. nat_abs z ≤ b) (pos 0) f zero-le h n }

pub tile-most : (b : ℕ) (f : ℕ → ℕ → ℤ) → ((k i : ℕ) → nat_abs (f k i) ≤ b) → TileMost b (grid 16 16 f)
unfolding grid
tile-most b f h = record { line = tab-every (LineMost b) [] (λ k. tab 16 (f k)) (record { at = λ i. zero-le }) (λ k. line-most b (f k) (h k) 16) 16 }

pub cells-most : {b : ℕ} {t : List (List ℤ)} → TileMost b t → (y x : ℕ) → nat_abs (cell (pos 0) t y x) ≤ b
unfolding cell
cells-most m y x = (m.line y).at x

-- a number of a row that has its length, whatever stands for those past the end
pub cell_or : {A : Type 0} (t : List (List A)) (p q : A) (y l n : ℕ) → length (get_or t y []) ≡ n → l < n → cell p t y l ≡ cell q t y l
unfolding cell
cell_or t p q y l n e h = get_or_default (get_or t y []) l p q (omega (arith, e))
