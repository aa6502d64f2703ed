-- Equal frames have equal tiles; and where no tile has a correction, the merged frame is the reference.
use Rattle.std.specs.Prelude.{◌≡◌, ◌+◌, ◌*◌, ◌/◌, ◌%◌, ◌≤◌, ◌<◌, ◌+ℤ◌}
use Rattle.algebra.specs.Prelude.{ap, ap₂, ◌∙◌, ℕ, arith, ℤ, pos, nat_abs}
use Rattle.sequences.specs.Grid.{tab-ext}
use Rattle.sanity.specs.Prelude.{Image, plane_of, inside, read, origin, Side, correction_at, Scene, tile_at, noise_over, difference_over, output_at, word_at, merged}
use Rattle.geometry.specs.ReadLaws.{inside-below}
use Rattle.closeness.specs.Spatial.PlainLaws.{plain-output}
use Rattle.sanity.specs.Frames.{Same, image_words}
use Rattle.sanity.specs.FrameLaws.{row_inside, column-inside}
use Rattle.sanity.specs.OutputLaws.{output-kept}

pub tile-same : (n : Side) (height width rowParity columnParity : ℕ) (f g : Image) → 2 ≤ height → 2 ≤ width → rowParity < 2 → columnParity < 2 → Same height width f g →
    (down right : ℤ) (a b i j : ℕ) → tile_at n height width rowParity columnParity f down right a b i j ≡ tile_at n height width rowParity columnParity g down right a b i j
unfolding tile_at read plane_of
tile-same n height width rowParity columnParity f g high wide p q same down right a b i j =
    let row = origin n.half a +ℤ down +ℤ pos i in
    let column = origin n.half b +ℤ right +ℤ pos j in
    same.at (2 * inside (height / 2) row + rowParity) (2 * inside (width / 2) column + columnParity)
    (omega (arith, inside-below (height / 2) row (omega arith)))
    (omega (arith, inside-below (width / 2) column (omega arith)))

module _ (s : Scene) where
  -- P of each tile over the sample at a row and a column is 0, for each other frame
  pub record Uncorrected (row column : ℕ) : Type 0 where
    pub none : (t k i j : ℕ) → k < s.others →
        correction_at s.side (noise_over s (row % 2) (column % 2) (row / 2) (column / 2) t) (difference_over s (row % 2) (column % 2) (row / 2) (column / 2) t k) i j ≡ pos 0

  pub plane-place : (row column : ℕ) → plane_of s.reference (row % 2) (column % 2) (row / 2) (column / 2) ≡ s.reference row column
  unfolding plane_of
  plane-place row column = ap₂ s.reference (omega arith) (omega arith)

  -- at s = 0
  pub output-is : s.tuning.spatial ≡ 0 → (row column : ℕ) → s.reference row column ≤ 4095 → Uncorrected row column → output_at s row column ≡ pos (s.reference row column)
  unfolding output_at
  output-is off row column most u =
      plain-output s off (row % 2) (column % 2) (row / 2) (column / 2)
      ∙ output-kept s.side _ _ s.others _ _ _ (rw (plane-place row column) most) (λ t z h k. u.none t z _ _ k) ∙ ap pos (plane-place row column)

  pub merged-is : ((row column : ℕ) → row < s.height → column < s.width → output_at s row column ≡ pos (s.reference row column)) → merged s ≡ image_words s.height s.width s.reference
  unfolding merged word_at image_words
  merged-is h =
      tab-ext (s.width * s.height) _ _
      (λ k l. ap nat_abs (h (k / s.width) (k % s.width) (row_inside k s.width s.height l) (column-inside k s.width s.height l)))
