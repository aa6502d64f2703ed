-- Inside this crate: a sample of the low or the high frame from what its end takes from each of the four tiles over it.
use Rattle.std.specs.Prelude.{◌≡◌, ◌+◌, ◌-◌, ◌*◌, ◌/◌, ◌%◌, ◌<◌, ◌-ℤ◌, ◌*ℤ◌}
use Rattle.range_frame.specs.Prelude.{refl, sym, ap, ap₂, subst, ◌∙◌, List, ℕ, suc, ℤ, pos, nat_abs, side16, Merge, Scene, scene_at, noise_over, difference_over, greatest_at, least_at, sample_from, low_sample, high_sample, End, plane_end, row_span, word_from, EndAt, end_sum, end_taken, RowHeld}
use Rattle.algebra.specs.Sums.{sum_z}
use Rattle.algebra.specs.SumLaws.{sum_z-cong, sum_z-scale}
use Rattle.algebra.specs.Clamp.{clamp_z}
use Rattle.algebra.specs.Nearest.{upward}
use Rattle.geometry.specs.Read.{plane_of}
use Rattle.geometry.specs.Fits.{AllowedSize, TileSide}
use Rattle.recipe.specs.Side.{Side}
use Rattle.recipe.specs.Sides.{side_of}
use Rattle.recipe.specs.SideLaws.{of_16}
use Rattle.recipe.specs.Output.{row_in, column_in, weight_in}
use Rattle.merge_gather.specs.Gather.{windowed, corrected}
use Rattle.merge_gather.specs.HoldLaws.{taken_over, sample-is, word-is}

-- an end's sample is made of its P
pub record Picks (end : End) (at : EndAt) : Type 0 where
  pub is : (s : Side) (a b others : ℕ) (lower upper : ℕ → ℕ) (d : ℕ → ℕ → ℕ → ℕ → ℤ) (t0 : ℤ)
      → end s a b others lower upper d t0 ≡ sample_from s a b others (λ t z. at s (lower t) (upper t) (d t z) (row_in s a t) (column_in s b t)) t0

pub low-picks : Picks low_sample greatest_at
unfolding low_sample
low-picks = record { is = λ s a b others lower upper d t0. refl }

pub high-picks : Picks high_sample least_at
unfolding high_sample
high-picks = record { is = λ s a b others lower upper d t0. refl }

module _ {end : End} {at : EndAt} (picks : Picks end at) (m m' : Merge) (samples : List ℕ) (vectors : List ℤ) (rowParity columnParity y x : ℕ) where
  abbrev lower : Scene
  lower = scene_at side16 m samples vectors

  abbrev upper : Scene
  upper = scene_at side16 m' samples vectors

  abbrev term : (t k : ℕ) → ℤ
  term t k =
      at side16 (noise_over lower rowParity columnParity y x t) (noise_over upper rowParity columnParity y x t) (difference_over lower rowParity columnParity y x t k)
      (row_in side16 (y % side16.half) t) (column_in side16 (x % side16.half) t)

  weighed : sum_z 4 (λ t. sum_z lower.others (λ k. pos (weight_in side16 (y % side16.half) (x % side16.half) t) *ℤ term t k))
      ≡ windowed side16 (y % side16.half) (x % side16.half) (taken_over (end_taken at lower upper) side16.half rowParity columnParity y x)
  unfolding windowed end_taken end_sum scene_at
  weighed = sum_z-cong 4 _ _ (λ t h. sum_z-scale lower.others (pos (weight_in side16 (y % side16.half) (x % side16.half) t)) (term t))

  gathered : plane_end end lower upper rowParity columnParity y x
      ≡ corrected side16 (plane_of lower.reference rowParity columnParity y x) (windowed side16 (y % side16.half) (x % side16.half) (taken_over (end_taken at lower upper) side16.half rowParity columnParity y x)) lower.others
  unfolding plane_end corrected scene_at
  gathered =
      let whole = 256 * (side16.weight * suc lower.others) in
      picks.is side16 (y % side16.half) (x % side16.half) lower.others _ _ _ _
      ∙ ap (λ sum. clamp_z (pos 0) (pos 4095) (upward (pos (plane_of lower.reference rowParity columnParity y x) *ℤ pos whole -ℤ sum) whole)) weighed

  -- the same by the number that half a side is
  pub gathered-by : {half : ℕ} → side16.half ≡ half → plane_end end lower upper rowParity columnParity y x
      ≡ corrected side16 (plane_of lower.reference rowParity columnParity y x) (windowed side16 (y % half) (x % half) (taken_over (end_taken at lower upper) half rowParity columnParity y x)) lower.others
  gathered-by e =
      subst (λ half. plane_end end lower upper rowParity columnParity y x
      ≡ corrected side16 (plane_of lower.reference rowParity columnParity y x) (windowed side16 (y % half) (x % half) (taken_over (end_taken at lower upper) half rowParity columnParity y x)) lower.others) e gathered

half-16 : {n : ℕ} → n ≡ 16 → side16.half ≡ n / 2
unfolding side16
half-16 e = rw e refl

-- the frame's word of two rows that are held
module _ {end : End} {at : EndAt} (picks : Picks end at) (m m' : Merge) (samples : List ℕ) (vectors : List ℤ) (rowParity : ℕ) (work : List ℤ) (y c : ℕ) where
  abbrev n : ℕ
  n = m.shape.side

  abbrev taken : (rowParity columnParity a b i j : ℕ) → ℤ
  taken = end_taken at (scene_at side16 m samples vectors) (scene_at side16 m' samples vectors)

  pub end-word : n ≡ 16 → TileSide n → AllowedSize m.shape.width → c < m.shape.width
      → RowHeld n m.shape.width taken rowParity (y / (n / 2)) work → RowHeld n m.shape.width taken rowParity (y / (n / 2) + 1) work
      → word_from samples work (row_span m.shape m.reference rowParity y 0) m.shape.count c ≡ nat_abs (plane_end end (scene_at side16 m samples vectors) (scene_at side16 m' samples vectors) rowParity (c % 2) y (c / 2))
  unfolding word_from row_span scene_at windowed
  end-word e sided ok inside above below =
      ap nat_abs
      (ap₂ (λ t0 sum. corrected (side_of n) t0 sum (m.shape.count - 1)) (sample-is m.shape m.reference taken rowParity work y 0 c samples)
      (sum_z-cong 4 _ _ (λ t h. ap (λ z. pos (weight_in (side_of n) (y % (n / 2)) (c / 2 % (n / 2)) t) *ℤ z) (word-is m.shape m.reference taken rowParity work y 0 c sided ok inside above below t h)))
      ∙ ap (λ s. corrected s (plane_of (scene_at side16 m samples vectors).reference rowParity (c % 2) y (c / 2)) (windowed s (y % (n / 2)) (c / 2 % (n / 2)) (taken_over taken (n / 2) rowParity (c % 2) y (c / 2))) (m.shape.count - 1)) (of_16 e)
      ∙ sym (gathered-by picks m m' samples vectors rowParity (c % 2) y (c / 2) (half-16 e)))
