-- The residuals of tiles, once the call has accepted: at the vectors that align has found a frame's add up to align's sum; and of frames that are all equal, at vectors of 0, every
-- one is 0.
use Rattle.sanity.specs.Prelude.{sym, ap, ap₂, ◌∙◌, List, ℕ, arith, get_or, ℤ, pos, sum_n, tab, zeros, Shape, sample_at, finest_level, other_frame, down_at, right_at, frame_tiles, residual_length, residual, level_tile, pairs, sum_of, residual_sums, tile_residual, residual_word, tile_residuals, Alignment, Aligned}
use Rattle.std.specs.Prelude.{length, ◌≡◌, ◌+◌, ◌-◌, ◌*◌, ◌/◌, ◌<◌}
use Rattle.std.proofs.Math.ListN.{replicate, get_or-append}
use Rattle.sequences.specs.TabLaws.{length-tab, get_d-tab}
use Rattle.sequences.specs.Grid.{tab-ext}
use Rattle.sequences.specs.ClearLaws.{tab-const}
use Rattle.sequences.specs.Place.{row_below}
use Rattle.refusals.specs.AfterLaws.{result-made}
use Rattle.align_measure.specs.SumLaws.{residuals-sum}
use Rattle.align_measure.specs.Frames.{Ready}
use Rattle.admit_call.specs.Residuals.{residual_refusal}
use Rattle.stacker.specs.Residuals.{ResidualsFound}
use Rattle.stacker.specs.ResidualLaws.{residual-passed}
use Rattle.sanity.specs.Frames.{Burst, Alike}
use Rattle.sanity.specs.StillLaws.{still-residual}
use Rattle.sanity.specs.StillAlign.{pair-equal}
use Rattle.sanity.specs.StillMerge.{zero-at}
use Rattle.sanity.specs.AcceptedLaws.{align-accepted}

module _ {s : Shape} {reference : ℕ} {samples : List ℕ} {vectors : List ℤ} {residuals residuals' : List ℕ} {work work' : List ℤ} {number : ℕ}
    (call : ResidualsFound s reference samples vectors residuals residuals' work work' number) (accepted : number ≡ 0) where
  -- the tests have passed, and the residuals are those of the definition
  passed : residual_refusal s reference samples vectors residuals work ≡ 0
  passed = sym call.answer ∙ accepted

  lent : Ready s reference samples vectors residuals work
  lent = residual-passed s reference samples vectors residuals work passed

  found : residuals' ≡ tile_residuals s reference samples vectors
  found = result-made (residual_refusal s reference samples vectors residuals work) residuals _ passed call.result

  -- "per other frame in that order, the sum of finest residuals": align's, at its own vectors
  pub residuals-add-up : {vectors₀ work₀ work₀' : List ℤ} {r : Alignment} → Aligned s reference samples vectors₀ vectors work₀ work₀' r → r.refusal ≡ 0 →
      (k : ℕ) → k < s.count - 1 → sum_n (frame_tiles s) (λ t. get_or residuals' (k * frame_tiles s + t) 0) ≡ get_or r.residuals k 0
  unfolding residual_sums
  residuals-add-up aligned well k h =
      let a = align-accepted aligned well in
      let sums = tab (s.count - 1) (sum_of s reference samples) in
      ap (λ l. sum_n (frame_tiles s) (λ t. get_or l (k * frame_tiles s + t) 0)) (found ∙ ap (tile_residuals s reference samples) a.vectors_are)
      ∙ residuals-sum lent.fits.burst.allowed lent.fits.burst.sided reference samples k h
      ∙ sym (get_d-tab (sum_of s reference samples) 0 (s.count - 1) k h)
      ∙ sym (get_or-append sums (replicate (7 - (s.count - 1)) 0) 0 k (omega (arith, length-tab (sum_of s reference samples) (s.count - 1))))
      ∙ sym (ap (λ l. get_or l k 0) a.sums_are)

  -- of a tile that has not moved, in a frame that is the reference over again
  tile-none : Alike s reference samples → vectors ≡ zeros vectors → (k row column : ℕ) → k < s.count - 1 → tile_residual s reference samples vectors k row column ≡ 0
  unfolding tile_residual down_at right_at zeros
  tile-none alike none k row column h =
      let b = lent.fits.burst in
      let burst : Burst s reference samples = record { sampled = record { allowed = b.allowed; long = b.samples_long }; below = b.reference_below; fit = lent.samples_fit } in
      let at : (i : ℕ) → get_or vectors i (pos 0) ≡ pos 0 = λ i. ap (λ l. get_or l i (pos 0)) none ∙ zero-at (length vectors) i in
      ap₂ (λ down right. residual (finest_level s.side).squared (pairs s (sample_at s samples reference) (sample_at s samples (other_frame reference k)) 0) (level_tile (finest_level s.side) row column) (record { down = down; right = right })) (at _) (at _)
      ∙ still-residual _ (pair-equal s reference samples burst alike k h 0) (finest_level s.side).squared (level_tile (finest_level s.side) row column)

  pub residuals-still : Alike s reference samples → vectors ≡ zeros vectors → residuals' ≡ replicate (length residuals) 0
  unfolding tile_residuals residual_word residual_length
  residuals-still alike none =
      found
      ∙ tab-ext (residual_length s) _ (λ i. 0) (λ i h. tile-none alike none (i / frame_tiles s) _ _ (row_below i (s.count - 1) (frame_tiles s) h))
      ∙ tab-const 0 (residual_length s)
      ∙ ap (λ n. replicate n 0) (sym lent.residuals_long)
