-- Try a burst of one picture taken several times, with vectors of 0: the merge hands back the reference, whatever the noise and the strength are.
use Rattle.sanity.specs.Prelude.{refl, sym, ◌∙◌, List, ℕ, zero, suc, arith, other_frame, vector_place, down_at, right_at, Merge, Scene, scene_of, tile_at, reference_tile, other_tile, tile_difference, scene_at, output_at, merged}
use Rattle.std.specs.Prelude.{pos, get_or, replicate, ◌≡◌, ◌+◌, ◌%◌, ◌≤◌, ◌<◌}
use Rattle.std.proofs.Math.IntN.{+ℤ_invr}
use Rattle.sanity.specs.Frames.{Burst, Same, Alike, image_words, frame_words}
use Rattle.geometry.specs.VectorLaws.{other-below}
use Rattle.sanity.specs.FrameLaws.{frame-words, alike_same}
use Rattle.tile_spectrum.specs.ZeroLaws.{no_difference}
use Rattle.sanity.specs.MergeLaws.{tile-same, Uncorrected, output-is, merged-is}

-- every other frame is the reference, and no tile of it has moved
pub record Still (s : Scene) : Type 0 where
  pub high : 2 ≤ s.height
  pub wide : 2 ≤ s.width
  pub alike : (k : ℕ) → k < s.others → Same s.height s.width s.reference (s.other k)
  pub no_down : (k a b : ℕ) → k < s.others → s.down k a b ≡ pos 0
  pub no_right : (k a b : ℕ) → k < s.others → s.right k a b ≡ pos 0

module _ (s : Scene) (plain : s.tuning.spatial ≡ 0) (still : Still s) where
  -- "T0−Tz" is 0
  difference-none : (rowParity columnParity a b k i j : ℕ) → rowParity < 2 → columnParity < 2 → k < s.others → tile_difference s rowParity columnParity a b k i j ≡ pos 0
  unfolding tile_difference reference_tile other_tile
  difference-none rowParity columnParity a b k i j p q h =
      rw (still.no_down k a b h, still.no_right k a b h, tile-same s.side s.height s.width rowParity columnParity s.reference (s.other k) still.high still.wide p q (still.alike k h) (pos 0) (pos 0) a b i j)
      (+ℤ_invr (pos (tile_at s.side s.height s.width rowParity columnParity (s.other k) (pos 0) (pos 0) a b i j)))

  uncorrected : (row column : ℕ) → Uncorrected s row column
  uncorrected row column =
      record {
        none = λ t k i j h. no_difference s.side _ (λ y x l m. difference-none (row % 2) (column % 2) _ _ k y x (omega arith) (omega arith) h) s.side.quantum_above s.side.divisor_above _ i j;
      }

  -- sample for sample
  pub sample-back : (row column : ℕ) → s.reference row column ≤ 4095 → output_at s row column ≡ pos (s.reference row column)
  sample-back row column most = output-is s plain row column most (uncorrected row column)

  -- and the whole frame
  pub frame_back : ((row column : ℕ) → row < s.height → column < s.width → s.reference row column ≤ 4095) → merged s ≡ image_words s.height s.width s.reference
  frame_back most = merged-is s (λ row column h k. sample-back row column (most row column h k))

pub zero-at : (n k : ℕ) → get_or (replicate n (pos 0)) k (pos 0) ≡ pos 0
zero-at zero k = refl
zero-at (suc n) zero = refl
zero-at (suc n) (suc k) = zero-at n k

-- a burst of frames that are all equal, with vectors that are all 0
module _ (m : Merge) (samples : List ℕ) (burst : Burst m.shape m.reference samples) (alike : Alike m.shape m.reference samples) (plain : m.tuning.spatial ≡ 0) (n : ℕ) where
  still-burst : Still (scene_of m samples (replicate n (pos 0)))
  unfolding scene_at down_at right_at
  still-burst =
      record {
        high = omega (arith, burst.sampled.allowed.high.least);
        wide = omega (arith, burst.sampled.allowed.wide.least);
        alike = λ k h. alike_same alike (other_frame m.reference k) (other-below m.reference k m.shape.count h);
        no_down = λ k a b h. zero-at n (vector_place m.shape k a b);
        no_right = λ k a b h. zero-at n (vector_place m.shape k a b + 1);
      }

  pub burst-back : merged (scene_of m samples (replicate n (pos 0))) ≡ frame_words m.shape samples m.reference
  unfolding scene_at
  burst-back =
      frame_back (scene_of m samples (replicate n (pos 0))) plain still-burst (λ row column h k. burst.fit.most m.reference row column burst.below h k)
      ∙ sym (frame-words m.shape samples m.reference)
