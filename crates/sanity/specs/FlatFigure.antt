-- Document 01's figure: "W = H = 64, N = 2, reference 0 all 0, frame 1 all 4, shot 0, read 4194304, t 1024: every merged sample is 2. With t 0 it is 0."
use Rattle.sanity.specs.Prelude.{refl, ap, ◌∙◌, List, [], ℕ, zero, suc, arith, lit≤, lit<, ℤ, pos, sum_z, min_z, max_z, clamp_z, away, upward, tab, Shape, sample_length, vector_length, output_length, AllowedSize, Sampled, other_frame, level0, level_size, tile_count, residual_length, aligned_vectors, residual_sums, residual_word, tile_residuals, side16, side_of, variance, noise_number, wiener, Merge, scene_of, scene_at, merged}
use Rattle.std.specs.Prelude.{length, take, replicate, ◌≡◌, ◌∷◌, ◌++◌, ◌*◌, ◌/◌, ◌<◌}
use Rattle.std.proofs.lemmas.List.{length-replicate}
use Rattle.std.proofs.Common.{length-append, take_at, drop_at, take_all}
use Rattle.sequences.specs.Grid.{tab-ext}
use Rattle.sequences.specs.ClearLaws.{tab-const}
use Rattle.geometry.specs.LevelTiles.{level_tiles}
use Rattle.align_pyramid.specs.Layout.{tiles}
use Rattle.sanity.specs.Frames.{frame_words}
use Rattle.sanity.specs.FrameLaws.{packed-words}
use Rattle.sanity.specs.Flat.{FlatBurst, flat_correction, flat_output}
use Rattle.sanity.specs.FlatMerge.{burst-flat}
use Rattle.sanity.specs.Pedestal.{zero_black, zero-black}
use Rattle.sanity.specs.FlatAlign.{vectors-flat, sum-flat, residual-flat}

abbrev pub shape : Shape
shape = record { width = 64; height = 64; count = 2; side = 16; pitch = 64 }

-- a frame of one value
unfoldable pub plain : ℕ → List ℕ
plain v = replicate 4096 v

abbrev pub burst : List ℕ
burst = plain 0 ++ plain 4

abbrev pub tuned : (strength : ℕ) → Merge
tuned strength = record { shape = shape; reference = 0; shot = 0; read = 4194304; tuning = record { strength = strength; black = zero_black; spatial = 0 } }

plain-long : (v : ℕ) → length (plain v) ≡ 4096
unfolding plain
plain-long v = length-replicate 4096 v

sixty-four : AllowedSize 64
sixty-four = record { least = lit≤ tt; most = lit≤ tt; whole = refl }

sampled : Sampled shape burst
unfolding sample_length
sampled =
    record {
      allowed = record { wide = sixty-four; high = sixty-four; some = lit≤ tt; few = lit≤ tt; row_least = lit≤ tt; row-most = lit≤ tt };
      long = length-append (plain 0) (plain 4) ∙ omega (arith, plain-long 0, plain-long 4);
    }

words0 : frame_words shape burst 0 ≡ plain 0
unfolding output_length
words0 = packed-words shape burst sampled refl 0 (lit< tt) ∙ take_at (plain 0) (plain 4) 4096 (plain-long 0)

words1 : frame_words shape burst 1 ≡ plain 4
unfolding output_length
words1 = packed-words shape burst sampled refl 1 (lit< tt) ∙ ap (take 4096) (drop_at (plain 0) (plain 4) 4096 (plain-long 0)) ∙ take_all 4096 (plain 4) (omega (arith, plain-long 4))

flat : FlatBurst shape 0 burst 0 (λ k. 4)
unfolding plain output_length other_frame
flat =
    record {
      sampled = sampled;
      below = lit< tt;
      reference_words = words0;
      other_words = λ k h. only k h;
    }
  where
    only : (k : ℕ) → k < 1 → frame_words shape burst (other_frame 0 k) ≡ replicate (output_length shape) 4
    only zero h = words1
    only (suc k) h = absurd (omega arith)

-- whatever the lent vectors are
pub merged-2 : (vectors : List ℤ) → merged (scene_of (tuned 1024) burst vectors) ≡ plain 2
unfolding plain output_length scene_at side_of flat_output flat_correction noise_number variance side16 wiener away upward clamp_z min_z max_z sum_z
merged-2 vectors = burst-flat (tuned 1024) burst vectors flat refl refl (zero-black _ refl)

pub merged-0 : (vectors : List ℤ) → merged (scene_of (tuned 0) burst vectors) ≡ plain 0
unfolding plain output_length scene_at side_of flat_output flat_correction noise_number variance side16 wiener away upward clamp_z min_z max_z sum_z
merged-0 vectors = burst-flat (tuned 0) burst vectors flat refl refl (zero-black _ refl)

-- "`motion` on that file prints exactly [..] 1 25 25 0 102400": 25 tiles, all with vector 0, 0, and the sum of finest residuals
pub tiles-25 : tiles level0 shape ≡ 25
unfolding tiles level_tiles tile_count level_size
tiles-25 = refl

pub vectors-0 : aligned_vectors shape 0 burst ≡ replicate 50 (pos 0)
unfolding vector_length
vectors-0 = vectors-flat flat

pub residual-102400 : residual_sums shape 0 burst ≡ 102400 ∷ 0 ∷ 0 ∷ 0 ∷ 0 ∷ 0 ∷ 0 ∷ []
unfolding residual_sums tab
residual-102400 = ap (λ n. n ∷ replicate 6 0) (sum-flat flat 0 (lit< tt) ∙ ap (λ n. n * 4096) tiles-25)

-- 256 sums of four samples to a tile, each 16 apart, whatever the lent vectors are
pub residuals-4096 : (vectors : List ℤ) → tile_residuals shape 0 burst vectors ≡ replicate 25 4096
unfolding tile_residuals residual_length residual_word
residuals-4096 vectors = tab-ext 25 _ (λ i. 4096) (λ i h. residual-flat flat vectors (i / 25) _ _ (omega arith)) ∙ tab-const 4096 25
