-- Inner vocabulary: what the loop over the frames asks, and what it leaves; the same of one frame.
use Rattle.std.specs.Prelude.{◌≡◌, ◌-◌, ◌*◌, ◌≤◌, ◌<◌}
use Rattle.align_burst.specs.Prelude.{List, ℕ, length, ℤ, written, Shape, vector_length, Image, sample_at, tile_columns, frame_parts, word, parts_of, TileSide, BurstFits, AlignFits, SamplesFit, align_length, Levels, Sums}
use Rattle.align_pyramid.specs.Bayer.Frame.{Frame}
use Rattle.align_burst.specs.Frames.{vectors_of, residual_of}
use Rattle.align_burst.specs.Rows.{rows_of, count_of, rows_summed}
use Rattle.align_burst.specs.Magnitudes.{frame_rows_most}
use Rattle.align_burst.specs.declared.burst.Totals.{Totals}
use Rattle.align_burst.specs.Aligned.{sum_of, aligned_vectors, residual_sums}

-- what alignment needs: a burst that its tests have let through
pub record Ready (s : Shape) (reference : ℕ) (samples : List ℕ) (vectors work : List ℤ) : Type 0 where
  pub fits : AlignFits s reference (length samples) (length vectors) (length work)
  pub samples_fit : SamplesFit s samples

-- what it leaves: the vectors, the sums and the rows summed; the work area keeps its length
pub record AlignedBurst (s : Shape) (reference : ℕ) (samples : List ℕ) (vectors : List ℤ) (work work' : List ℤ) (r : Totals) : Type 0 where
  pub found : vectors ≡ aligned_vectors s reference samples
  pub sums_are : r.residuals ≡ residual_sums s reference samples
  pub rows_are : r.rows ≡ rows_summed s reference samples
  pub same : length work' ≡ length work

-- a frame whose pyramid can be laid behind the reference's, which stands at the work area's start
pub record BehindReference (s : Shape) (reference frame : ℕ) (samples : List ℕ) (work : List ℤ) : Type 0 where
  pub readable : Frame s frame samples
  pub sided : TileSide s.side
  pub levels : Levels s (sample_at s samples reference) 0 work
  pub room : align_length s ≤ length work

-- one frame's vectors are written from `to` on, and the reference's pyramid stays
pub record OneAligned (s : Shape) (reference other : Image) (d : List ℤ) (to : ℕ) (l : List ℤ) (work work' : List ℤ) (r : Sums) : Type 0 where
  pub vectors : l ≡ written d to (word (tile_columns s) (vectors_of s reference other)) (frame_parts s)
  pub residual_is : r.residual ≡ residual_of s reference other
  pub rows_are : r.rows ≡ rows_of s reference other
  pub few : r.rows ≤ frame_rows_most
  pub levels : Levels s reference 0 work'
  pub same : length work' ≡ length work

-- what one frame's alignment needs: a burst that its tests have let through, and vectors of that frame alone
pub record ReadyFrame (s : Shape) (reference other : ℕ) (samples : List ℕ) (vectors work : List ℤ) : Type 0 where
  pub burst : BurstFits s reference (length samples) (vector_length s)
  pub room : s.width * s.height ≤ length work
  pub samples_fit : SamplesFit s samples
  pub other_in : other < s.count - 1
  pub vectors_long : length vectors ≡ frame_parts s

-- what it leaves: that frame's vectors, their sum and the rows summed for it; the work area keeps its length
pub record AlignedFrame (s : Shape) (reference other : ℕ) (samples : List ℕ) (vectors : List ℤ) (work work' : List ℤ) (r : Sums) : Type 0 where
  pub found : vectors ≡ parts_of (frame_parts s) (aligned_vectors s reference samples) other
  pub sum_is : r.residual ≡ sum_of s reference samples other
  pub rows_are : r.rows ≡ count_of s reference samples other
  pub same : length work' ≡ length work
