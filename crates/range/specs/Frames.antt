-- Request L14 at frames: "two frames, low and high", of a burst whose noise is known only between two curves.
use Rattle.std.specs.Prelude.{◌*◌, ◌/◌, ◌%◌}
use Rattle.range.specs.Prelude.{List, ℕ, ℤ, pos, nat_abs, Side, Scene, noise_over, difference_over}
use Rattle.sequences.specs.Tab.{tab}
use Rattle.geometry.specs.Read.{plane_of}
use Rattle.range.specs.Range.{low_sample, high_sample}

-- low and high samples, over a side
abbrev pub End : Type 0
End = Side → (a b others : ℕ) (lower upper : ℕ → ℕ) (d : ℕ → ℕ → ℕ → ℕ → ℤ) → ℤ → ℤ

-- two scenes that differ in Ls and Lr alone: those of the lower curve and of the upper one
module _ (end : End) (lower upper : Scene) where
  -- that sample at row y and column x of a plane, as `plane_output` (recipe/Merged) has the merge's
  unfoldable pub plane_end : (rowParity columnParity y x : ℕ) → ℤ
  plane_end rowParity columnParity y x =
      end lower.side (y % lower.side.half) (x % lower.side.half) lower.others (noise_over lower rowParity columnParity y x) (noise_over upper rowParity columnParity y x)
      (difference_over lower rowParity columnParity y x) (pos (plane_of lower.reference rowParity columnParity y x))

  -- and the frame of them, as `merged` is the merge's
  unfoldable pub frame_end : List ℕ
  frame_end =
      tab (lower.width * lower.height)
      (λ k. let row = k / lower.width in
      let column = k % lower.width in
      nat_abs (plane_end (row % 2) (column % 2) (row / 2) (column / 2)))

-- "two frames, low and high"
abbrev pub low_frame : (lower upper : Scene) → List ℕ
low_frame = frame_end low_sample

abbrev pub high_frame : (lower upper : Scene) → List ℕ
high_frame = frame_end high_sample
