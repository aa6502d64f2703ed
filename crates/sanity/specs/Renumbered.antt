-- Try the other frames in another order, each with its vectors: the merged frame stays the same.
use Rattle.std.specs.Prelude.{◌≡◌, ◌*◌, ◌/◌, ◌%◌, ◌≤◌, ◌<◌, ◌+ℤ◌, ◌-ℤ◌, ◌*ℤ◌}
use Rattle.std.proofs.Math.Path.{refl, sym, ap, ap₂, fun_ext}
use Rattle.std.proofs.Common.{◌∙◌}
use Rattle.algebra.specs.Prelude.{List, ℕ, suc, arith, ℤ, pos, nat_abs}
use Rattle.algebra.specs.SumLaws.{sum_z-cong}
use Rattle.sanity.specs.Prelude.{clamp_z, away, upward, AllowedSize, TileSide, plane_of, noise_number, Merge, Side, side16, side_of, bin_re, bin_im, inverse_at, correction_at, row_in, column_in, weight_in, Scene, scene_of, tile_at, tile_over, reference_tile, other_tile, tile_noise, tile_spatial, tile_difference, tile_here, scene_at, plane_output, output_at, word_at, merged}
use Rattle.sequences.specs.Grid.{tab-ext}
use Rattle.tile_root.specs.TileRootLaws.{tile-root-cong}
use Rattle.recipe.specs.Tables32.{side32}
use Rattle.recipe.specs.SideLaws.{by-table}
use Rattle.recipe.specs.SpatialNoise.{spatial_number}
use Rattle.recipe.specs.Spatial.{FilteredTile, copy_filtered, merged_sum, copy_at, spatial_at, taken_at, filtered_sample}
use Rattle.sanity.specs.Frames.{Same}
use Rattle.sanity.specs.FrameLaws.{row_inside, column-inside}
use Rattle.sanity.specs.MergeLaws.{tile-same}
use Rattle.sanity.specs.RenumberLaws.{Renumbering, sum-renumbered}

-- the output sample, with the other frames in another order
module _ {others : ℕ} {to from : ℕ → ℕ} (order : Renumbering others to from) (s : Side) (a b : ℕ) where
  -- the sum of P over the frames
  sum-stays : (tile tile' : FilteredTile) → tile'.noise ≡ tile.noise → ((k : ℕ) → k < others → tile'.differences k ≡ tile.differences (to k)) → merged_sum s others tile' ≡ merged_sum s others tile
  unfolding merged_sum
  sum-stays tile tile' en ed =
      fun_ext (λ y. fun_ext (λ x.
      sum_z-cong others _ _ (λ k l. ap₂ (λ v f. correction_at s v f y x) en (ed k l)) ∙ sum-renumbered order (λ k. correction_at s tile.noise (tile.differences k) y x)))

  -- what is taken from a tile, by that sum, T0 and V'
  abbrev taken : (sum : ℕ → ℕ → ℤ) (reference : ℕ → ℕ → ℤ) (noise : ℕ → ℕ → ℕ) → ℕ → ℕ → ℤ
  taken sum reference noise y x =
      let c : ℕ → ℕ → ℤ = λ y x. away (reference y x *ℤ pos (256 * suc others) -ℤ sum y x) (suc others) in
      sum y x +ℤ pos (suc others) *ℤ inverse_at s (λ u v. copy_filtered s (noise u v) (bin_re s c u v) (bin_im s c u v)) (λ u v. copy_filtered s (noise u v) (bin_im s c u v) (bin_re s c u v)) y x

  taken_is : (tile : FilteredTile) (y x : ℕ) → taken_at s others tile y x ≡ taken (merged_sum s others tile) tile.reference tile.spatial y x
  unfolding taken_at spatial_at copy_at
  taken_is tile y x = refl

  output-renumbered : (tiles tiles' : ℕ → FilteredTile) (t0 t0' : ℤ) → ((t : ℕ) → (tiles' t).noise ≡ (tiles t).noise) → ((t : ℕ) → (tiles' t).spatial ≡ (tiles t).spatial) → ((t : ℕ) → (tiles' t).reference ≡ (tiles t).reference) →
      ((t k : ℕ) → k < others → (tiles' t).differences k ≡ (tiles t).differences (to k)) → t0' ≡ t0 → filtered_sample s a b others tiles' t0' ≡ filtered_sample s a b others tiles t0
  unfolding filtered_sample
  output-renumbered tiles tiles' t0 t0' en es er ed e0 =
      let whole = 256 * (s.weight * suc others) in
      ap₂ (λ z t. clamp_z (pos 0) (pos 4095) (upward (t *ℤ pos whole -ℤ z) whole))
      (sum_z-cong 4 _ _
      (λ t h. ap (λ z. pos (weight_in s a b t) *ℤ z)
      (taken_is (tiles' t) (row_in s a t) (column_in s b t)
      ∙ ap₂ (λ sum reference. taken sum reference (tiles' t).spatial (row_in s a t) (column_in s b t)) (sum-stays (tiles t) (tiles' t) (en t) (ed t)) (er t)
      ∙ ap (λ noise. taken (merged_sum s others (tiles t)) (tiles t).reference noise (row_in s a t) (column_in s b t)) (es t)
      ∙ sym (taken_is (tiles t) (row_in s a t) (column_in s b t)))))
      e0

-- the same merge with its reference at another place
abbrev pub moved : Merge → (reference : ℕ) → Merge
moved m reference = record { shape = m.shape; reference = reference; shot = m.shot; read = m.read; tuning = m.tuning }

-- s' has the frames and the vectors of s, with number `to k` of the other frames as number k
pub record Reordered (s s' : Scene) (to from : ℕ → ℕ) : Type 0 where
  pub order : Renumbering s.others to from
  pub high : AllowedSize s.height
  pub wide : AllowedSize s.width
  pub reference_same : Same s.height s.width s'.reference s.reference
  pub other_same : (k : ℕ) → k < s.others → Same s.height s.width (s'.other k) (s.other (to k))
  pub down_same : (k a b : ℕ) → k < s.others → a ≤ s.height / s.side.side → b ≤ s.width / s.side.side → s'.down k a b ≡ s.down (to k) a b
  pub right_same : (k a b : ℕ) → k < s.others → a ≤ s.height / s.side.side → b ≤ s.width / s.side.side → s'.right k a b ≡ s.right (to k) a b

module _ (m : Merge) (reference : ℕ) (samples samples' : List ℕ) (vectors vectors' : List ℤ) {to from : ℕ → ℕ}
    (sided : TileSide m.shape.side) (r : Reordered (scene_of m samples vectors) (scene_of (moved m reference) samples' vectors') to from) where
  abbrev n : Side
  n = side_of m.shape.side

  abbrev s : Scene
  s = scene_of m samples vectors

  abbrev s' : Scene
  s' = scene_of (moved m reference) samples' vectors'

  module _ (rowParity columnParity : ℕ) (p : rowParity < 2) (q : columnParity < 2) (a b : ℕ) where
    reference-tile : (i j : ℕ) → reference_tile s' rowParity columnParity a b i j ≡ reference_tile s rowParity columnParity a b i j
    unfolding scene_at reference_tile
    reference-tile i j = tile-same n s.height s.width rowParity columnParity s'.reference s.reference (omega (arith, r.high.least)) (omega (arith, r.wide.least)) p q r.reference_same (pos 0) (pos 0) a b i j

    tile-noise : tile_noise s' rowParity columnParity a b ≡ tile_noise s rowParity columnParity a b
    unfolding scene_at tile_noise
    tile-noise = ap (noise_number n s.tuning.strength s.shot s.read) (tile-root-cong n.side _ _ _ (λ i j h k. reference-tile i j))

    tile-spatial : tile_spatial s' rowParity columnParity a b ≡ tile_spatial s rowParity columnParity a b
    unfolding scene_at tile_spatial
    tile-spatial = ap (λ r. spatial_number n s.tuning.spatial s.shot s.read r (suc s.others)) (tile-root-cong n.side _ _ _ (λ i j h k. reference-tile i j))

    module _ (ha : a ≤ s.height / s.side.side) (hb : b ≤ s.width / s.side.side) (k : ℕ) (h : k < s.others) where
      other-tile : (i j : ℕ) → other_tile s' rowParity columnParity a b k i j ≡ other_tile s rowParity columnParity a b (to k) i j
      unfolding scene_at other_tile
      other-tile i j =
          ap₂ (λ d c. tile_at n s.height s.width rowParity columnParity (s'.other k) d c a b i j) (r.down_same k a b h ha hb) (r.right_same k a b h ha hb)
          ∙ tile-same n s.height s.width rowParity columnParity (s'.other k) (s.other (to k)) (omega (arith, r.high.least)) (omega (arith, r.wide.least)) p q (r.other_same k h) (s.down (to k) a b) (s.right (to k) a b) a b i j

      differences : tile_difference s' rowParity columnParity a b k ≡ tile_difference s rowParity columnParity a b (to k)
      unfolding tile_difference
      differences = fun_ext (λ i. fun_ext (λ j. ap₂ (λ x y. pos x -ℤ pos y) (reference-tile i j) (other-tile i j)))

  -- the tiles over a sample are tiles of the plane
  over : (size y t : ℕ) → AllowedSize size → y < size → tile_over n (y / 2) t ≤ size / n.side
  unfolding side16 side32
  over size y t ok h = by-table sided (λ k s. tile_over s (y / 2) t ≤ size / s.side) sixteen thirty_two
    where
      sixteen : tile_over side16 (y / 2) t ≤ size / side16.side
      sixteen = omega (arith, ok.whole)

      thirty_two : tile_over side32 (y / 2) t ≤ size / side32.side
      thirty_two = omega (arith, ok.whole)

  -- sample for sample
  pub sample-stays : (row column : ℕ) → row < s.height → column < s.width → output_at s' row column ≡ output_at s row column
  unfolding scene_at output_at plane_output plane_of tile_here
  sample-stays row column h k =
      let p : row % 2 < 2 = omega arith in
      let q : column % 2 < 2 = omega arith in
      output-renumbered r.order n _ _ _ _ _ _
      (λ t. tile-noise (row % 2) (column % 2) p q _ _)
      (λ t. tile-spatial (row % 2) (column % 2) p q _ _)
      (λ t. fun_ext (λ i. fun_ext (λ j. ap pos (reference-tile (row % 2) (column % 2) p q _ _ i j))))
      (λ t z l. differences (row % 2) (column % 2) p q _ _ (over s.height row (t / 2) r.high h) (over s.width column (t % 2) r.wide k) z l)
      (ap pos (r.reference_same.at _ _ (omega arith) (omega arith)))

  -- and the whole frame
  pub frame-stays : merged s' ≡ merged s
  unfolding scene_at merged word_at
  frame-stays =
      tab-ext (s.width * s.height) _ _
      (λ k l. ap nat_abs (sample-stays (k / s.width) (k % s.width) (row_inside k s.width s.height l) (column-inside k s.width s.height l)))
