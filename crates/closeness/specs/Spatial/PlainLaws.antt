-- "With s = 0 the plain merge comes out": the merged sample is document 01's, from the noise numbers and the differences of the four tiles.
use Rattle.std.specs.Prelude.{◌≡◌, ◌/◌, ◌%◌}
use Rattle.algebra.specs.Prelude.{ap, ◌∙◌, ℕ, suc, pos}
use Rattle.geometry.specs.Read.{plane_of}
use Rattle.recipe.specs.Scene.{Scene, reference_root, tile_spatial, tile_here, noise_over, difference_over, tiles_over, tile_over}
use Rattle.recipe.specs.SpatialNoise.{spatial_number}
use Rattle.recipe.specs.PlainOutput.{output_sample}
use Rattle.recipe.specs.Merged.{plane_output}
use Rattle.tile_spectrum.specs.FilterZeroLaws.{no-strength, plain-merge}

module _ (s : Scene) (off : s.tuning.spatial ≡ 0) where
  pub no-spatial : (rowParity columnParity a b u v : ℕ) → tile_spatial s rowParity columnParity a b u v ≡ 0
  unfolding tile_spatial
  no-spatial rowParity columnParity a b u v =
      ap (λ t. spatial_number s.side t s.shot s.read (reference_root s rowParity columnParity a b) (suc s.others) u v) off
      ∙ no-strength s.side s.shot s.read (reference_root s rowParity columnParity a b) (suc s.others) u v

  pub plain-output : (rowParity columnParity y x : ℕ) → plane_output s rowParity columnParity y x
      ≡ output_sample s.side (y % s.side.half) (x % s.side.half) s.others (noise_over s rowParity columnParity y x) (difference_over s rowParity columnParity y x) (pos (plane_of s.reference rowParity columnParity y x))
  unfolding plane_output tile_here
  plain-output rowParity columnParity y x =
      plain-merge s.side (y % s.side.half) (x % s.side.half) s.others (tiles_over s rowParity columnParity y x) (pos (plane_of s.reference rowParity columnParity y x)) s.side.divisor_above
      (λ t. no-spatial rowParity columnParity (tile_over s.side y (t / 2)) (tile_over s.side x (t % 2)))
