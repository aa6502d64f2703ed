-- Inside this crate and merge_frame: the two rows of pairs of correction tiles that the work area holds, and a word of the output worked out from them.
use Rattle.std.specs.Prelude.{◌≡◌, ◌+◌, ◌-◌, ◌*◌, ◌/◌, ◌%◌, ◌^◌, ◌≤◌, ◌<◌}
use Rattle.merge_gather.specs.Prelude.{List, ℕ, length, get_or, ℤ, pos, nat_abs, Shape, row_stride, frame_stride, sample_length, Allowed, TileSide, side_of, taken_most, row_words, slot_of}
use Rattle.sequences.specs.Written.{written}
use Rattle.merge_gather.specs.declared.Span.{Span}
use Rattle.merge_gather.specs.Gather.{Weights, windowed, corrected, word_over}

-- the largest product of two windows, the largest word of the work area weighed by one, and four of those
abbrev pub weight_most : ℕ
weight_most = 2 ^ 24

abbrev pub part_most : ℕ
part_most = weight_most * taken_most

abbrev pub sum_most : ℕ
sum_most = 4 * part_most

-- N = `count` is 1 to 8, and `inverse` is 2^19/N, rounding up
pub record Divided (count inverse : ℕ) : Type 0 where
  pub some : 1 ≤ count
  pub few : count ≤ 8
  pub inverse_is : inverse ≡ (524287 + count) / count

-- n words from `at` on that are small enough to be weighed and added
pub record Words (work : List ℤ) (at n : ℕ) : Type 0 where
  pub room : at + n ≤ length work
  pub most : (k : ℕ) → k < n → nat_abs (get_or work (at + k) (pos 0)) ≤ taken_most

-- the words over a block, of two halves of the lower row of pairs and two of the upper, and the weights of its row in them
pub record Weighed (work : List ℤ) (p : Span) (lower upper : List ℤ) : Type 0 where
  pub sided : TileSide p.side
  pub lower_later : Words work p.below p.side
  pub lower_earlier : Words work (p.below + p.side * p.side) p.side
  pub upper_later : Words work p.above p.side
  pub upper_earlier : Words work (p.above + p.side * p.side) p.side
  pub lower_weights : Weights p.side p.i lower
  pub upper_weights : Weights p.side (p.i + p.side / 2) upper
  pub row : p.i < p.side / 2

-- row y of a row parity lies in the reference's frame, and not above its row `top`, with which the output begins
pub record Inside (s : Shape) (reference rowParity y top : ℕ) : Type 0 where
  pub allowed : Allowed s
  pub sided : TileSide s.side
  pub reference_below : reference < s.count
  pub parity : rowParity < 2
  pub row : y < s.height / 2
  pub under : top ≤ 2 * y + rowParity

-- that row from its first word on, and from its block number `column` on
unfoldable pub row_span : Shape → (reference rowParity y top : ℕ) → Span
row_span s reference rowParity y top =
    let half = s.side / 2 in
    record {
      from = reference * frame_stride s + (2 * y + rowParity) * row_stride s;
      start = (2 * y + rowParity - top) * s.width;
      above = slot_of s.side s.width (y / half) + s.side * (y % half + half);
      below = slot_of s.side s.width (y / half + 1) + s.side * (y % half);
      side = s.side;
      i = y % half;
    }

abbrev pub further : Span → (column : ℕ) → Span
further p column =
    let words = p.side * column in
    let halves = 2 * p.side * words in
    record { from = p.from + words; start = p.start + words; above = p.above + halves; below = p.below + halves; side = p.side; i = p.i }

-- nothing starts later in the samples, the output or the work area
abbrev pub start_most : ℕ
start_most = 2 ^ 28

pub record Small (p : Span) : Type 0 where
  pub from : p.from ≤ start_most
  pub start : p.start ≤ start_most
  pub above : p.above ≤ start_most
  pub below : p.below ≤ start_most

-- a whole row from there on lies in the samples
pub record Roomy (s : Shape) (p : Span) : Type 0 where
  pub small : Small p
  pub samples : p.from + s.width ≤ sample_length s

-- the words of the two rows of pairs over row y are small enough to be weighed and added
pub record Over (work : List ℤ) (side width y : ℕ) : Type 0 where
  pub above : Words work (slot_of side width (y / (side / 2))) (row_words side width)
  pub below : Words work (slot_of side width (y / (side / 2) + 1)) (row_words side width)

-- the output's word c places further on, of N = `count` frames
unfoldable pub word_from : (samples : List ℕ) (work : List ℤ) → Span → (count c : ℕ) → ℕ
word_from samples work p count c =
    nat_abs (corrected (side_of p.side) (get_or samples (p.from + c) 0) (windowed (side_of p.side) p.i (c / 2 % (p.side / 2)) (word_over work p c)) (count - 1))

-- the output, which begins with row `top` of the frame, with row y of a row parity written
abbrev pub row_written : (output samples : List ℕ) (work : List ℤ) → Shape → (reference rowParity y top : ℕ) → List ℕ
row_written output samples work s reference rowParity y top =
    written output ((2 * y + rowParity - top) * s.width) (word_from samples work (row_span s reference rowParity y top) s.count) s.width
