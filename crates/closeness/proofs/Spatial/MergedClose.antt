-- At s = 0 each word of the merged frame lies close to the exact merge's sample at its place: within five eighths for side 16 (demand 3), within one step for
-- side 32 (request L8). For side 16 it lies at any s within two steps of the exact filtered merge's (request L13), in fact within nine tenths.
use Rattle.std.specs.Prelude.{◌≡◌, ◌*◌, ◌/◌, ◌%◌, ◌≤◌, ◌<◌}
use Rattle.closeness.specs.Spatial.Prelude.{sym, ap, subst, ◌∙◌, ℕ, arith, get_or, ℤ, pos, nat_abs, whole, Within, Side, side16, FilteredTile, filtered_sample, exact_sample, exact_filtered_sample}
use Rattle.algebra.specs.Order.{abs-nonneg, zarith}
use Rattle.algebra.specs.ClampLaws.{clamp-low}
use Rattle.sequences.specs.TabLaws.{get_d-tab}
use Rattle.recipe.specs.Tables32.{side32}
use Rattle.recipe.specs.Scene.{Scene}
use Rattle.recipe.specs.PlainOutput.{output_sample}
use Rattle.recipe.specs.Merged.{plane_output, output_at, word_at, merged}
use Rattle.recipe.specs.ExactMerge.{plane_exact, exact_at, plane_exact_filtered, exact_filtered_at}
use Rattle.closeness.specs.Side16.{five-eighths}
use Rattle.closeness.specs.Side32.{one-step}
use Rattle.closeness.specs.Spatial.Side16.{nine-tenths, two_steps}
use Rattle.closeness.specs.Spatial.PlainLaws.{plain-output}

-- without the filter within p/q at any sample, for up to seven other frames
abbrev CloseSide : Side → (p q : ℕ) → Type 0
CloseSide n p q =
    (y x others : ℕ) (noise : ℕ → ℕ) (d : ℕ → ℕ → ℕ → ℕ → ℤ) (t0 : ℤ) → others ≤ 7 →
    Within p q (whole (output_sample n (y % n.half) (x % n.half) others noise d t0)) (exact_sample n (y % n.half) (x % n.half) others noise d t0)

close-16 : CloseSide side16 5 8
unfolding side16
close-16 y x others noise d t0 few = five-eighths (y % 8) (x % 8) others noise d t0 (omega arith) (omega arith) few

close-32 : CloseSide side32 1 1
unfolding side32
close-32 y x others noise d t0 few = one-step (y % 16) (x % 16) others noise d t0 (omega arith) (omega arith) few

-- `nine-tenths` and `two_steps` of a side that is side 16
filtered-close : {n : Side} → n ≡ side16 → (y x others : ℕ) (tiles : ℕ → FilteredTile) (t0 : ℤ) → others ≤ 7 →
    Within 9 10 (whole (filtered_sample n (y % n.half) (x % n.half) others tiles t0)) (exact_filtered_sample n (y % n.half) (x % n.half) others tiles t0)
unfolding side16
filtered-close e y x others tiles t0 few =
    subst (λ n. Within 9 10 (whole (filtered_sample n (y % n.half) (x % n.half) others tiles t0)) (exact_filtered_sample n (y % n.half) (x % n.half) others tiles t0)) (sym e)
    (nine-tenths (y % 8) (x % 8) others tiles t0 (omega arith) (omega arith) few)

filtered-two : {n : Side} → n ≡ side16 → (y x others : ℕ) (tiles : ℕ → FilteredTile) (t0 : ℤ) → others ≤ 7 →
    Within 2 1 (whole (filtered_sample n (y % n.half) (x % n.half) others tiles t0)) (exact_filtered_sample n (y % n.half) (x % n.half) others tiles t0)
unfolding side16
filtered-two e y x others tiles t0 few =
    subst (λ n. Within 2 1 (whole (filtered_sample n (y % n.half) (x % n.half) others tiles t0)) (exact_filtered_sample n (y % n.half) (x % n.half) others tiles t0)) (sym e)
    (two_steps (y % 8) (x % 8) others tiles t0 (omega arith) (omega arith) few)

-- the output's numbers are not negative, so its words are these numbers
pub word-is : (s : Scene) (row column : ℕ) → pos (nat_abs (output_at s row column)) ≡ output_at s row column
unfolding output_at plane_output filtered_sample
word-is s row column = abs-nonneg _ (clamp-low (pos 0) (pos 4095) _ (omega zarith))

word-at : (s : Scene) (k : ℕ) → k < s.width * s.height → output_at s (k / s.width) (k % s.width) ≡ pos (get_or (merged s) k 0)
unfolding merged word_at
word-at s k h = sym (ap pos (get_d-tab _ 0 (s.width * s.height) k h) ∙ word-is s (k / s.width) (k % s.width))

-- the whole frame, up to seven other frames
module _ {p q : ℕ} (s : Scene) (close : CloseSide s.side p q) (few : s.others ≤ 7) (off : s.tuning.spatial ≡ 0) where
  output-near : (row column : ℕ) → Within p q (whole (output_at s row column)) (exact_at s row column)
  unfolding output_at exact_at plane_exact
  output-near row column =
      subst (λ z. Within p q (whole z) (exact_at s row column)) (sym (plain-output s off (row % 2) (column % 2) (row / 2) (column / 2)))
      (close (row / 2) (column / 2) s.others _ _ _ few)

  merged-near : (k : ℕ) → k < s.width * s.height → Within p q (whole (pos (get_or (merged s) k 0))) (exact_at s (k / s.width) (k % s.width))
  merged-near k h = subst (λ z. Within p q (whole z) (exact_at s (k / s.width) (k % s.width))) (word-at s k h) (output-near (k / s.width) (k % s.width))

module _ (s : Scene) (of-32 : s.side ≡ side32) (few : s.others ≤ 7) (off : s.tuning.spatial ≡ 0) where
  pub merged-close-32 : (k : ℕ) → k < s.width * s.height → Within 1 1 (whole (pos (get_or (merged s) k 0))) (exact_at s (k / s.width) (k % s.width))
  merged-close-32 = merged-near s (subst (λ n. CloseSide n 1 1) (sym of-32) close-32) few off

module _ (s : Scene) (of_16 : s.side ≡ side16) (few : s.others ≤ 7) where
  module _ (off : s.tuning.spatial ≡ 0) where
    pub output-close : (row column : ℕ) → Within 5 8 (whole (output_at s row column)) (exact_at s row column)
    output-close = output-near s (subst (λ n. CloseSide n 5 8) (sym of_16) close-16) few off

    pub merged-close : (k : ℕ) → k < s.width * s.height → Within 5 8 (whole (pos (get_or (merged s) k 0))) (exact_at s (k / s.width) (k % s.width))
    merged-close = merged-near s (subst (λ n. CloseSide n 5 8) (sym of_16) close-16) few off

  pub output-two-steps : (row column : ℕ) → Within 2 1 (whole (output_at s row column)) (exact_filtered_at s row column)
  unfolding output_at plane_output exact_filtered_at plane_exact_filtered
  output-two-steps row column = filtered-two of_16 (row / 2) (column / 2) s.others _ _ few

  pub merged-two-steps : (k : ℕ) → k < s.width * s.height → Within 2 1 (whole (pos (get_or (merged s) k 0))) (exact_filtered_at s (k / s.width) (k % s.width))
  merged-two-steps k h = subst (λ z. Within 2 1 (whole z) (exact_filtered_at s (k / s.width) (k % s.width))) (word-at s k h) (output-two-steps (k / s.width) (k % s.width))

  -- sharper than asked
  pub output-nine-tenths : (row column : ℕ) → Within 9 10 (whole (output_at s row column)) (exact_filtered_at s row column)
  unfolding output_at plane_output exact_filtered_at plane_exact_filtered
  output-nine-tenths row column = filtered-close of_16 (row / 2) (column / 2) s.others _ _ few

  pub merged-nine-tenths : (k : ℕ) → k < s.width * s.height → Within 9 10 (whole (pos (get_or (merged s) k 0))) (exact_filtered_at s (k / s.width) (k % s.width))
  merged-nine-tenths k h = subst (λ z. Within 9 10 (whole z) (exact_filtered_at s (k / s.width) (k % s.width))) (word-at s k h) (output-nine-tenths (k / s.width) (k % s.width))
