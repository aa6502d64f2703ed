-- Rows of a pair in double.
use Rattle.std.specs.Prelude.{◌≡◌, ◌≤◌, ◌<◌}
use Rattle.tile_pair.specs.Prelude.{subst, Bool, List, [], ℕ, get_or, ℤ, nat_abs, Float, binary64, of_int, double_line, WholeRow, column_most, InDouble, doubles}
use Rattle.tile_spectrum.specs.ColumnLaws.{grid-row}

-- where noise is known to be low, or is any
abbrev pub row_at : (low : Bool) {h : List Float} (b : Bool) → low ≡ b → WholeRow (column_most low) h → WholeRow (column_most b) h
row_at low b e w = record { number = w.number; most = λ l. subst (λ b. nat_abs (w.number l) ≤ column_most b) e (w.most l); is = w.is }

-- a row of a pair
pub row_of : (f : ℕ → ℕ → ℤ) {t : List (List Float)} → t ≡ doubles f → (y : ℕ) → y < 16 → get_or t y [] ≡ double_line 32 (f y)
unfolding doubles
row_of f e y h = grid-row 16 32 (λ y l. of_int binary64 (f y l)) e y h

abbrev pub whole_row : {m : ℕ} {t : List (List Float)} → InDouble m t → (y : ℕ) → y < 16 → WholeRow m (get_or t y [])
whole_row w y h = record { number = w.number y; most = w.most y; is = row_of w.number w.is y h }
