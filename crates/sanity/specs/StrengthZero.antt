-- Try strength 0, and no spatial filter: the merge hands back the reference, whatever the other frames, the vectors and the noise are.
use Rattle.std.specs.Prelude.{◌≡◌, ◌/◌, ◌%◌, ◌≤◌}
use Rattle.sanity.specs.Prelude.{sym, ap, ◌∙◌, List, ℕ, ℤ, pos, tile_root, noise_number, correction_at, Merge, Scene, scene_of, black_of, reference_tile, tile_noise, difference_over, scene_at, output_at, merged}
use Rattle.noise.specs.NoiseNumberLaws.{noise-number-off}
use Rattle.sanity.specs.Frames.{frame_words, Burst}
use Rattle.sanity.specs.FrameLaws.{frame-words}
use Rattle.tile_spectrum.specs.ZeroLaws.{no-noise}
use Rattle.sanity.specs.MergeLaws.{Uncorrected, output-is, merged-is}

module _ (s : Scene) (plain : s.tuning.spatial ≡ 0) (off : s.tuning.strength ≡ 0) where
  -- V of every tile is 0
  tile-none : (rowParity columnParity a b : ℕ) → tile_noise s rowParity columnParity a b ≡ 0
  unfolding tile_noise
  tile-none rowParity columnParity a b =
      ap (λ t. noise_number s.side t s.shot s.read (tile_root s.side.side (black_of s.tuning rowParity columnParity) (reference_tile s rowParity columnParity a b))) off
      ∙ noise-number-off s.side s.shot s.read _

  uncorrected : (row column : ℕ) → Uncorrected s row column
  uncorrected row column =
      record {
        none = λ t k i j h.
            ap (λ v. correction_at s.side v (difference_over s (row % 2) (column % 2) (row / 2) (column / 2) t k) i j) (tile-none (row % 2) (column % 2) _ _)
            ∙ no-noise s.side s.side.divisor_above _ i j;
      }

  -- sample for sample
  pub sample-back : (row column : ℕ) → s.reference row column ≤ 4095 → output_at s row column ≡ pos (s.reference row column)
  sample-back row column most = output-is s plain row column most (uncorrected row column)

-- and the whole frame of a burst
pub burst-back : (m : Merge) (samples : List ℕ) (vectors : List ℤ) → Burst m.shape m.reference samples → m.tuning.spatial ≡ 0 → m.tuning.strength ≡ 0 →
    merged (scene_of m samples vectors) ≡ frame_words m.shape samples m.reference
unfolding scene_at
burst-back m samples vectors burst plain off =
    merged-is (scene_of m samples vectors) (λ row column h k. sample-back (scene_of m samples vectors) plain off row column (burst.fit.most m.reference row column burst.below h k))
    ∙ sym (frame-words m.shape samples m.reference)
