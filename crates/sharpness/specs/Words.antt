-- The steps as the code takes them: from word to word of a frame, the other plane's words between. Inner vocabulary.
use Rattle.std.specs.Prelude.{◌+◌, ◌-◌, ◌*◌, ◌/◌, ◌<◌}
use Rattle.sharpness.specs.Prelude.{List, ℕ, get_or, sum_n, Shape, Sampled, SamplesFit, Image}
use Rattle.sharpness.specs.Sharpness.{step, row_steps}

-- a row of the plane of a frame of a burst, and the row so many further down
pub record RowsIn (s : Shape) (samples : List ℕ) (frame row down : ℕ) : Type 0 where
  pub sampled : Sampled s samples
  pub fit : SamplesFit s samples
  pub frame_in : frame < s.count
  pub rows_in : row + down < s.height / 2

-- from the word at a column, in a row of the plane: to the next of its plane, and so many rows of the plane down
unfoldable pub word_steps : Image → (row down column : ℕ) → ℕ
word_steps frame row down column =
    step (frame (2 * row) column) (frame (2 * row) (column + 2)) + step (frame (2 * row) column) (frame (2 * (row + down)) column)

-- from a place of the green plane
abbrev pub place_steps : Image → (row down place : ℕ) → ℕ
place_steps frame row down place = word_steps frame row down (2 * place + 1)

-- a row's last place has no right neighbour
unfoldable pub last_step : Image → (width row down : ℕ) → ℕ
last_step frame width row down = step (frame (2 * row) (2 * (width - 1) + 1)) (frame (2 * (row + down)) (2 * (width - 1) + 1))

-- of 32 words from a column on, word j and the one 16 further; and those of the green plane
abbrev pub lane_of : (ℕ → ℕ) → (column j : ℕ) → ℕ
lane_of f column j = f (column + j) + f (column + 16 + j)

unfoldable pub green_total : List ℕ → ℕ
green_total lanes = sum_n 8 (λ j. get_or lanes (2 * j + 1) 0)

-- the steps of a row to the right, and so many rows down
abbrev pub both_steps : (width down : ℕ) → Image → (row : ℕ) → ℕ
both_steps width down plane row = row_steps width down 0 plane row + row_steps width 0 1 plane row

-- how large they become: of a word, and of a row of up to 2047 places and the last
abbrev pub word_most : ℕ
word_most = 8190

abbrev pub row_most : ℕ
row_most = 67141631
