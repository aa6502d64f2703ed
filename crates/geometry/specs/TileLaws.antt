-- Tile counts: a bound that holds at any size, and the count at level 0 of an allowed one.
use Rattle.std.specs.Prelude.{◌≡◌, ◌+◌, ◌-◌, ◌/◌, ◌≤◌, ◌<◌}
use Rattle.algebra.specs.Prelude.{ℕ, arith}
use Rattle.std.proofs.Common.{div-lt_iff_lt-mul, mul-le-mul_left, add-mul}
use Rattle.std.proofs.Math.Logic.{⊎_elim}
use Rattle.geometry.specs.Fits.{AllowedSize, TileSide}
use Rattle.geometry.specs.Tiles.{finest_level, level_size, tile_count}
use Rattle.geometry.specs.LevelTiles.{level_tiles}

pub count_most : (half size : ℕ) → 0 < half → tile_count half size ≤ size + 1
unfolding tile_count
count_most half size h =
    omega (arith, (div-lt_iff_lt-mul {k = half} {x = size + (half - 1)} {y = size + 1} h).1 (omega (arith, add-mul size 1 half, mul-le-mul_left {m = 1} {n = half} size h)))

module _ {side : ℕ} (sided : TileSide side) where
  pub sided-most : (size : ℕ) → size ≤ 4096 → size / side + 1 ≤ 257
  sided-most size h = ⊎_elim (λ e. rw e (omega arith)) (λ e. rw e (omega arith)) sided.is

  -- "Indices run from 0 to ceil(size/s)" makes "W/16+1" of them at level 0, or "W/32+1" (request L8)
  pub finest-tiles : {size : ℕ} → AllowedSize size → level_tiles (finest_level side) size ≡ size / side + 1
  unfolding level_tiles tile_count level_size
  finest-tiles ok = ⊎_elim (λ e. rw e (omega (arith, ok.whole))) (λ e. rw e (omega (arith, ok.whole))) sided.is
