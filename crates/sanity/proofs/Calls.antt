-- The same of a lone frame at the calls, once they have accepted.
use Rattle.std.specs.Prelude.{◌≡◌}
use Rattle.sanity.specs.Prelude.{◌∙◌, List, ℕ, ℤ, length, Shape, Noise, aligned_vectors, Alignment, Tuning, merge_of, Merged, Ran}
use Rattle.sanity.specs.Frames.{frame_words}
use Rattle.sanity.specs.AcceptedLaws.{merge-accepted, run-accepted}
use Rattle.sanity.specs.LoneFrame.{alone, no_rows, no_vectors}
use Rattle.sanity.specs.Calls.{Unmoved, unmoved}
use Rattle.sanity.proofs.LoneFrame.{burst-back}

module _ {s : Shape} {reference : ℕ} {samples : List ℕ} {vectors work work' : List ℤ} where
  module _ {noise : Noise} {tuning : Tuning} {output output' : List ℕ} where
    -- "With N = 1 the answer is that frame unchanged, the vector buffer has length 0 and the seven residual sums are 0"; and no row is summed
    pub merge-lone : {number : ℕ} → Merged s reference noise tuning samples vectors output output' work work' number → number ≡ 0 →
        tuning.spatial ≡ 0 → s.count ≡ 1 → output' ≡ frame_words s samples reference
    merge-lone call accepted plain lone =
        let (lent, is) = merge-accepted call accepted in
        is ∙ burst-back (merge_of s reference noise tuning) samples vectors lent.burst plain lone

    pub run-lone : {vectors' : List ℤ} {r : Alignment} → Ran s reference noise tuning samples vectors vectors' output output' work work' r → r.refusal ≡ 0 →
        tuning.spatial ≡ 0 → s.count ≡ 1 → Unmoved vectors vectors' r × (r.rows ≡ 0) × (length vectors ≡ 0) × (output' ≡ frame_words s samples reference)
    run-lone call accepted plain lone =
        let (f, is) = run-accepted call accepted in (
          unmoved f (alone s reference samples lone f.lent.burst.below),
          f.rows_are ∙ no_rows s reference samples lone,
          f.lent.long ∙ no_vectors s lone,
          is ∙ burst-back (merge_of s reference noise tuning) samples (aligned_vectors s reference samples) f.lent.burst plain lone,
        )
