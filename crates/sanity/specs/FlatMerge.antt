-- Try flat frames: whatever the vectors, each plane of the merged frame is flat too, of the value `flat_output`; and so is the frame where the planes have one black level.
use Rattle.std.specs.Prelude.{◌≡◌, ◌+◌, ◌-◌, ◌*◌, ◌/◌, ◌%◌, ◌<◌, ◌-ℤ◌}
use Rattle.std.proofs.Common.{◌∙◌}
use Rattle.std.proofs.Math.Path.{ap, ap₂, fun_ext}
use Rattle.sanity.specs.Prelude.{List, ℕ, arith, ℤ, pos, nat_abs, replicate, output_length, other_frame, plane_of, read, side16, tile_root, noise_number, Merge, Scene, scene_of, black_of, tile_at, reference_tile, other_tile, tile_noise, tile_difference, scene_at, output_at, word_at, merged}
use Rattle.sequences.specs.Grid.{tab-ext}
use Rattle.sequences.specs.ClearLaws.{tab-const}
use Rattle.recipe.specs.SideLaws.{of_16}
use Rattle.closeness.specs.Spatial.PlainLaws.{plain-output}
use Rattle.sanity.specs.FrameLaws.{flat-same, row_inside, column-inside}
use Rattle.sanity.specs.MergeLaws.{tile-same}
use Rattle.sanity.specs.FlatLaws.{flat-root, flat-sample}
use Rattle.sanity.specs.Flat.{Flat, FlatBurst, flat_output}
use Rattle.sanity.specs.Pedestal.{OneBlack}

module _ (s : Scene) {a : ℕ} {b : ℕ → ℕ} (flat : Flat s a b) where
  module _ (rowParity columnParity : ℕ) (p : rowParity < 2) (q : columnParity < 2) (row column : ℕ) where
    reference-tile : (i j : ℕ) → reference_tile s rowParity columnParity row column i j ≡ a
    unfolding reference_tile tile_at read plane_of
    reference-tile i j = tile-same s.side s.height s.width rowParity columnParity s.reference (λ y x. a) flat.high flat.wide p q flat.reference (pos 0) (pos 0) row column i j

    other-tile : (k : ℕ) → k < s.others → (i j : ℕ) → other_tile s rowParity columnParity row column k i j ≡ b k
    unfolding other_tile tile_at read plane_of
    other-tile k h i j =
        tile-same s.side s.height s.width rowParity columnParity (s.other k) (λ y x. b k) flat.high flat.wide p q (flat.other k h) (s.down k row column) (s.right k row column) row column i j

    tile-noise : tile_noise s rowParity columnParity row column ≡ noise_number side16 s.tuning.strength s.shot s.read (16 * (a - black_of s.tuning rowParity columnParity))
    unfolding tile_noise side16
    tile-noise =
        ap₂ (λ n t. noise_number n s.tuning.strength s.shot s.read (tile_root n.side (black_of s.tuning rowParity columnParity) t)) flat.of_16 (fun_ext (λ i. fun_ext (λ j. reference-tile i j)))
        ∙ ap (noise_number side16 s.tuning.strength s.shot s.read) (flat-root (black_of s.tuning rowParity columnParity) a)

    differences : (k : ℕ) → k < s.others → tile_difference s rowParity columnParity row column k ≡ (λ i j. pos a -ℤ pos (b k))
    unfolding tile_difference
    differences k h = fun_ext (λ i. fun_ext (λ j. ap₂ (λ x y. pos x -ℤ pos y) (reference-tile i j) (other-tile k h i j)))

  -- sample for sample
  pub sample-flat : (row column : ℕ) → row < s.height → column < s.width → output_at s row column ≡ flat_output s (black_of s.tuning (row % 2) (column % 2)) a b
  unfolding output_at plane_of flat_output
  sample-flat row column h k =
      let p : row % 2 < 2 = omega arith in
      let q : column % 2 < 2 = omega arith in
      plain-output s flat.plain (row % 2) (column % 2) (row / 2) (column / 2)
      ∙ flat-sample flat.of_16 (row / 2) (column / 2) s.others _ _ _ _ _
      (λ t. tile-noise (row % 2) (column % 2) p q _ _)
      (λ t z l. differences (row % 2) (column % 2) p q _ _ z l)
      ∙ rw (flat.reference.at (2 * (row / 2) + row % 2) (2 * (column / 2) + column % 2) (omega arith) (omega arith))

  -- and the whole frame
  pub frame-flat : {black : ℕ} → OneBlack s.tuning black → merged s ≡ replicate (s.width * s.height) (nat_abs (flat_output s black a b))
  unfolding merged word_at
  frame-flat {black} one =
      tab-ext (s.width * s.height) _ _
      (λ k l. ap nat_abs (sample-flat (k / s.width) (k % s.width) (row_inside k s.width s.height l) (column-inside k s.width s.height l) ∙ ap (λ x. flat_output s x a b) (one.at _ _)))
      ∙ tab-const (nat_abs (flat_output s black a b)) (s.width * s.height)

-- and of a burst with tiles of side 16
module _ (m : Merge) (samples : List ℕ) (vectors : List ℤ) {a : ℕ} {b : ℕ → ℕ} (flat : FlatBurst m.shape m.reference samples a b) (sixteen : m.shape.side ≡ 16) (plain : m.tuning.spatial ≡ 0) where
  scene-flat : Flat (scene_of m samples vectors) a b
  unfolding scene_at
  scene-flat =
      record {
        of_16 = of_16 sixteen;
        plain = plain;
        high = omega (arith, flat.sampled.allowed.high.least);
        wide = omega (arith, flat.sampled.allowed.wide.least);
        reference = flat-same m.shape samples m.reference a flat.reference_words;
        other = λ k h. flat-same m.shape samples (other_frame m.reference k) (b k) (flat.other_words k h);
      }

  pub burst-flat : {black : ℕ} → OneBlack m.tuning black → merged (scene_of m samples vectors) ≡ replicate (output_length m.shape) (nat_abs (flat_output (scene_of m samples vectors) black a b))
  unfolding scene_at output_length
  burst-flat one = frame-flat (scene_of m samples vectors) scene-flat one
