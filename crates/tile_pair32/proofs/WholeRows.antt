-- Rows of a pair in double.
use Rattle.std.specs.Prelude.{◌≡◌, ◌≤◌, ◌<◌}
use Rattle.tile_pair32.specs.Prelude.{subst, Bool, List, [], ℕ, get_or, ℤ, nat_abs, Float, binary64, of_int, double_line, WholeLine, long_column_most, LongInDouble, long_doubles}
use Rattle.tile_spectrum.specs.ColumnLaws.{grid-row}

-- where noise is known to be low or middle, or is any
abbrev pub row_at : (low middle : Bool) {h : List Float} (b c : Bool) → low ≡ b → middle ≡ c → WholeLine 64 (long_column_most low middle) h → WholeLine 64 (long_column_most b c) h
row_at low middle b c e f w = record { number = w.number; most = λ l. subst (λ c. nat_abs (w.number l) ≤ long_column_most b c) f (subst (λ b. nat_abs (w.number l) ≤ long_column_most b middle) e (w.most l)); is = w.is }

-- a row of a pair
pub row_of : (f : ℕ → ℕ → ℤ) {t : List (List Float)} → t ≡ long_doubles f → (y : ℕ) → y < 32 → get_or t y [] ≡ double_line 64 (f y)
unfolding long_doubles
row_of f e y h = grid-row 32 64 (λ y l. of_int binary64 (f y l)) e y h

abbrev pub whole_row : {m : ℕ} {t : List (List Float)} → LongInDouble m t → (y : ℕ) → y < 32 → WholeLine 64 m (get_or t y [])
whole_row w y h = record { number = w.number y; most = w.most y; is = row_of w.number w.is y h }
