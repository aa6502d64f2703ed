-- "For every curve between the two ends, the frame merged with it lies between low and high at each sample. Equal curves give low and high equal to the
-- plain merge."
use Rattle.std.specs.Prelude.{◌≡◌, ◌*◌, ◌/◌, ◌%◌, ◌≤◌, ◌<◌, ◌≤ℤ◌}
use Rattle.range.specs.Prelude.{sym, ap, subst, ◌∙◌, List, ℕ, get_or, ℤ, pos, nat_abs, Scene, scene_at, reference_tile, other_tile, tile_noise, tile_difference, noise_over, difference_over}
use Rattle.std.proofs.Math.Path.{subst₂, fun_ext}
use Rattle.algebra.specs.Order.{0≤pos}
use Rattle.algebra.specs.ClampLaws.{clamp-low}
use Rattle.sequences.specs.Tab.{tab}
use Rattle.sequences.specs.TabLaws.{get_d-tab}
use Rattle.geometry.specs.declared.Shape.{Shape}
use Rattle.geometry.specs.Read.{plane_of}
use Rattle.recipe.specs.declared.Tuning.{Tuning}
use Rattle.recipe.specs.PlainOutput.{output_sample}
use Rattle.recipe.specs.Spatial.{filtered_sample}
use Rattle.recipe.specs.Merged.{plane_output, output_at, word_at, merged}
use Rattle.closeness.specs.Spatial.PlainLaws.{plain-output}
use Rattle.range.specs.Range.{low_sample, high_sample}
use Rattle.range.specs.FrameLaws.{noise-rises, abs-mono, levelled}
use Rattle.range.proofs.RangeLaws.{sample-inside, low_same, high_same}
use Rattle.range.specs.Frames.{plane_end, frame_end, low_frame, high_frame}

module _ (s : Shape) (reference : ℕ) (tuning : Tuning) (samples : List ℕ) (vectors : List ℤ) where
  module _ {ls ls' ls'' lr lr' lr'' : ℕ} (h : ls ≤ ls') (k : ls' ≤ ls'') (l : lr ≤ lr') (m : lr' ≤ lr'') where
    abbrev low : Scene
    low = levelled s reference tuning samples vectors ls lr

    abbrev mid : Scene
    mid = levelled s reference tuning samples vectors ls' lr'

    abbrev high : Scene
    high = levelled s reference tuning samples vectors ls'' lr''

    -- document 01's own sample
    abbrev plain : (rowParity columnParity y x : ℕ) → ℤ
    plain rowParity columnParity y x =
        output_sample mid.side (y % mid.side.half) (x % mid.side.half) mid.others (noise_over mid rowParity columnParity y x) (difference_over mid rowParity columnParity y x)
        (pos (plane_of mid.reference rowParity columnParity y x))

    plain-inside : (rowParity columnParity y x : ℕ) →
        (plane_end low_sample low high rowParity columnParity y x ≤ℤ plain rowParity columnParity y x) × (plain rowParity columnParity y x ≤ℤ plane_end high_sample low high rowParity columnParity y x)
    unfolding plane_end scene_at tile_noise reference_tile tile_difference other_tile
    plain-inside rowParity columnParity y x =
        sample-inside _ _ _ _ _ _ _
        (λ t. noise-rises mid.side tuning.strength _ h l)
        (λ t. noise-rises mid.side tuning.strength _ k m) _ _

    off-mid : tuning.spatial ≡ 0 → mid.tuning.spatial ≡ 0
    unfolding scene_at
    off-mid off = off

    plane-inside : tuning.spatial ≡ 0 → (rowParity columnParity y x : ℕ) →
        (plane_end low_sample low high rowParity columnParity y x ≤ℤ plane_output mid rowParity columnParity y x) × (plane_output mid rowParity columnParity y x ≤ℤ plane_end high_sample low high rowParity columnParity y x)
    plane-inside off rowParity columnParity y x =
        subst (λ z. (plane_end low_sample low high rowParity columnParity y x ≤ℤ z) × (z ≤ℤ plane_end high_sample low high rowParity columnParity y x))
        (sym (plain-output mid (off-mid off) rowParity columnParity y x)) (plain-inside rowParity columnParity y x)

    low-above : (rowParity columnParity y x : ℕ) → pos 0 ≤ℤ plane_end low_sample low high rowParity columnParity y x
    unfolding plane_end low_sample
    low-above rowParity columnParity y x = clamp-low (pos 0) (pos 4095) _ (0≤pos 4095)

    output-above : (rowParity columnParity y x : ℕ) → pos 0 ≤ℤ plane_output mid rowParity columnParity y x
    unfolding plane_output filtered_sample
    output-above rowParity columnParity y x = clamp-low (pos 0) (pos 4095) _ (0≤pos 4095)

    pub frame-inside : tuning.spatial ≡ 0 → (i : ℕ) → i < s.width * s.height → (get_or (low_frame low high) i 0 ≤ get_or (merged mid) i 0) × (get_or (merged mid) i 0 ≤ get_or (high_frame low high) i 0)
    unfolding frame_end merged word_at output_at scene_at
    frame-inside off i j =
        let row = i / s.width in
        let column = i % s.width in
        let inside = plane-inside off (row % 2) (column % 2) (row / 2) (column / 2) in
        let place : (f : ℕ → ℕ) → f i ≡ get_or (tab (s.width * s.height) f) i 0 = λ f. sym (get_d-tab f 0 (s.width * s.height) i j) in (
          subst₂ ◌≤◌ (place _) (place _) (abs-mono _ _ (low-above (row % 2) (column % 2) (row / 2) (column / 2)) inside.0),
          subst₂ ◌≤◌ (place _) (place _) (abs-mono _ _ (output-above (row % 2) (column % 2) (row / 2) (column / 2)) inside.1),
        )

-- of any scene without the spatial filter
module _ (s : Scene) (off : s.tuning.spatial ≡ 0) where
  low-plane : (rowParity columnParity y x : ℕ) → plane_end low_sample s s rowParity columnParity y x ≡ plane_output s rowParity columnParity y x
  unfolding plane_end
  low-plane rowParity columnParity y x = low_same _ _ _ _ _ _ _ ∙ sym (plain-output s off rowParity columnParity y x)

  high-plane : (rowParity columnParity y x : ℕ) → plane_end high_sample s s rowParity columnParity y x ≡ plane_output s rowParity columnParity y x
  unfolding plane_end
  high-plane rowParity columnParity y x = high_same _ _ _ _ _ _ _ ∙ sym (plain-output s off rowParity columnParity y x)

  pub low-frame-same : low_frame s s ≡ merged s
  unfolding frame_end merged word_at output_at
  low-frame-same =
      ap (tab (s.width * s.height))
      (fun_ext (λ k. let row = k / s.width in
      let column = k % s.width in
      ap nat_abs (low-plane (row % 2) (column % 2) (row / 2) (column / 2))))

  pub high-frame-same : high_frame s s ≡ merged s
  unfolding frame_end merged word_at output_at
  high-frame-same =
      ap (tab (s.width * s.height))
      (fun_ext (λ k. let row = k / s.width in
      let column = k % s.width in
      ap nat_abs (high-plane (row % 2) (column % 2) (row / 2) (column / 2))))
