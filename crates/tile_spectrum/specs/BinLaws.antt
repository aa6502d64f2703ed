-- The bins of a plane of differences are those that differences can have.
use Rattle.std.specs.Prelude.{◌*◌, ◌≤◌}
use Rattle.tile_spectrum.specs.Prelude.{ℕ, ℤ, nat_abs, lit≤, difference_most, side32}
use Rattle.std.proofs.Math.Nat.{le_trans}
use Rattle.std.proofs.Common.{mul-le-mul_left}
use Rattle.tile_spectrum.specs.Magnitudes.{long_bin_most}
use Rattle.tile_spectrum.specs.Spectrum.{two_way, two_way_of}
use Rattle.tile_spectrum.specs.Turns.{turns32}
use Rattle.tile_spectrum.specs.Pairs.{Binned}
use Rattle.tile_spectrum.specs.LongPairs.{LongBinned}
use Rattle.tile_spectrum.specs.SpectrumLaws.{bin-re, bin-im, bin-re-of, bin-im-of}
use Rattle.tile_spectrum.specs.SizeLaws.{bin-re-most, bin-im-most}
use Rattle.tile_spectrum.specs.SideSizes.{distance_of, factor_most, factors32, re-far, im-far, distance-within}

module _ (d : ℕ → ℕ → ℤ) (m : (y x : ℕ) → nat_abs (d y x) ≤ difference_most) where
  pub differences-binned : Binned (two_way d)
  differences-binned =
      record {
        re_most = λ u v h l. rw (bin-re d u v h l) (bin-re-most d m u v);
        im_most = λ u v h l. rw (bin-im d u v h l) (bin-im-most d m u v);
      }

  far-most : factor_most * distance_of side32 d ≤ long_bin_most
  unfolding side32
  far-most = le_trans (mul-le-mul_left factor_most (distance-within side32 d m)) (lit≤ tt)

  pub long-binned : LongBinned (two_way_of side32 d)
  unfolding side32
  long-binned =
      record {
        re_most = λ u v h l. rw (bin-re-of turns32 d u v h l) (le_trans (re-far factors32 d u v) far-most);
        im_most = λ u v h l. rw (bin-im-of turns32 d u v h l) (le_trans (im-far factors32 d u v) far-most);
      }
