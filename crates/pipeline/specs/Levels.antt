-- Inner vocabulary, which no public contract reaches: what the core of run asks for, and what it leaves.
use Rattle.std.specs.Prelude.{◌≡◌, ◌≤◌}
use Rattle.algebra.specs.Prelude.{List, ℕ, length, ℤ}
use Rattle.sequences.specs.Clear.{zeros}
use Rattle.geometry.specs.Fits.{MergeFits, SamplesFit}
use Rattle.align_burst.specs.declared.burst.Totals.{Totals}
use Rattle.align_burst.specs.Aligned.{aligned_vectors, residual_sums}
use Rattle.align_burst.specs.Rows.{rows_summed}
use Rattle.recipe.specs.declared.Merge.{Merge}
use Rattle.recipe.specs.Scene.{scene_of}
use Rattle.recipe.specs.Merged.{merged}

-- what is known of a run that tests 1 to 11 have let through
pub record Runnable (m : Merge) (samples : List ℕ) (vectors : List ℤ) (output : List ℕ) (work : List ℤ) : Type 0 where
  pub fits : MergeFits m.shape m.reference (length samples) (length vectors) (length output) (length work)
  pub samples_fit : SamplesFit m.shape samples
  pub shot_most : m.shot ≤ 65536
  pub read_most : m.read ≤ 4194304
  pub strength_most : m.tuning.strength ≤ 1024
  pub spatial-most : m.tuning.spatial ≤ 256
  pub unfiltered : m.shape.side ≡ 32 → m.tuning.spatial ≡ 0

-- "align, then merge", and a zeroed work area
pub record RanLevels (m : Merge) (samples : List ℕ) (vectors' : List ℤ) (output' : List ℕ) (work work' : List ℤ) (r : Totals) : Type 0 where
  pub sums_are : r.residuals ≡ residual_sums m.shape m.reference samples
  pub rows_are : r.rows ≡ rows_summed m.shape m.reference samples
  pub found : vectors' ≡ aligned_vectors m.shape m.reference samples
  pub result : output' ≡ merged (scene_of m samples (aligned_vectors m.shape m.reference samples))
  pub clean : work' ≡ zeros work
