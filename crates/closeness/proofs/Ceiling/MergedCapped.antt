-- Request L11 at a merged frame, over any side: "For every accepted burst, a merged sample differs from the reference sample by at most" the ceiling, where s is 0 (request L13).
use Rattle.std.specs.Prelude.{◌≡◌, ◌*◌, ◌/◌, ◌%◌, ◌≤◌, ◌<◌}
use Rattle.algebra.specs.Prelude.{sym, ap, ap₂, subst, ◌∙◌, ℕ, suc, zero, arith, get_or, pos}
use Rattle.std.proofs.Common.{mod-lt, mul_comm, zero-mul, div-lt_iff_lt-mul}
use Rattle.sequences.specs.TabLaws.{get_d-tab}
use Rattle.geometry.specs.Read.{plane_of}
use Rattle.recipe.specs.Scene.{Scene, noise_over, difference_over}
use Rattle.recipe.specs.PlainOutput.{output_sample}
use Rattle.recipe.specs.Merged.{output_at, word_at, merged}
use Rattle.closeness.specs.Closeness.{Fitting}
use Rattle.closeness.specs.Spatial.PlainLaws.{plain-output}
use Rattle.closeness.proofs.Spatial.MergedClose.{word-is}
use Rattle.closeness.specs.Ceiling.Leak.{largest_over, leak, UnderCeiling}
use Rattle.closeness.specs.Ceiling.Ceiling.{Circle}
use Rattle.closeness.proofs.Ceiling.Ceiling.{ceiling}

row_inside : (k width height : ℕ) → k < width * height → k / width < height
row_inside k zero height h = absurd (omega (arith, zero-mul height))
row_inside k (suc w) height h = (div-lt_iff_lt-mul {k = suc w} {x = k} {y = height} (omega arith)).1 (omega (arith, mul_comm (suc w) height))

column-inside : (k width height : ℕ) → k < width * height → k % width < width
column-inside k zero height h = absurd (omega (arith, zero-mul height))
column-inside k (suc w) height h = mod-lt k (omega arith)

-- up to seven other frames, and reference samples that refusal 11 lets through
module _ (s : Scene) {m most w : ℕ} (fitting : Fitting s.side most w) (circle : Circle s.side m most) (few : s.others ≤ 7)
    (low : (row column : ℕ) → row < s.height → column < s.width → s.reference row column ≤ 4095) (off : s.tuning.spatial ≡ 0) where
  place : (row column : ℕ) → plane_of s.reference (row % 2) (column % 2) (row / 2) (column / 2) ≡ s.reference row column
  unfolding plane_of
  place row column = ap₂ s.reference (omega arith) (omega arith)

  output-capped : (row column : ℕ) → row < s.height → column < s.width → UnderCeiling s.side (leak (output_at s row column) (pos (s.reference row column))) (largest_over s row column)
  unfolding output_at
  output-capped row column h k =
      subst (λ z. UnderCeiling s.side (leak z (pos (s.reference row column))) (largest_over s row column)) (sym (plain-output s off (row % 2) (column % 2) (row / 2) (column / 2)))
      (subst (λ t. UnderCeiling s.side (leak (output_sample s.side ((row / 2) % s.side.half) ((column / 2) % s.side.half) s.others (noise_over s (row % 2) (column % 2) (row / 2) (column / 2)) (difference_over s (row % 2) (column % 2) (row / 2) (column / 2)) (pos (plane_of s.reference (row % 2) (column % 2) (row / 2) (column / 2)))) (pos t)) (largest_over s row column)) (place row column)
      (ceiling fitting circle _ _ s.others _ _ _ (mod-lt (row / 2) circle.half_above) (mod-lt (column / 2) circle.half_above) few (rw (place row column) (low row column h k))))

  pub merged-capped : (k : ℕ) → k < s.width * s.height →
      UnderCeiling s.side (leak (pos (get_or (merged s) k 0)) (pos (s.reference (k / s.width) (k % s.width)))) (largest_over s (k / s.width) (k % s.width))
  unfolding merged word_at
  merged-capped k h =
      let row = k / s.width in
      let column = k % s.width in
      subst (λ z. UnderCeiling s.side (leak z (pos (s.reference row column))) (largest_over s row column)) (sym (ap pos (get_d-tab _ 0 (s.width * s.height) k h) ∙ word-is s row column))
      (output-capped row column (row_inside k s.width s.height h) (column-inside k s.width s.height h))
