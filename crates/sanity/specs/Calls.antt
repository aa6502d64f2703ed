-- The same at the calls, once they have accepted: what merge, align and run leave without the spatial filter at strength 0, of frames that are all equal, and of frames in another
-- order; of a lone frame in proofs/Calls.
use Rattle.std.specs.Prelude.{◌≡◌}
use Rattle.sanity.specs.Prelude.{sym, ap, ◌∙◌, List, ℕ, ℤ, pos, length, replicate, zeros, Shape, Noise, aligned_vectors, scene_of, merged, Alignment, Tuning, merge_of, no_sums, Aligned, Merged, Ran}
use Rattle.sanity.specs.Frames.{frame_words, Alike}
use Rattle.sanity.specs.StrengthZero as StrengthZero
use Rattle.sanity.specs.StillMerge as StillMerge
use Rattle.sanity.specs.StillAlign.{vectors-none, sums_none}
use Rattle.sanity.specs.StillRun.{run-back}
use Rattle.sanity.specs.Shuffled.{Shuffled, run-stays}
use Rattle.sanity.specs.AcceptedLaws.{Found, align-accepted, merge-accepted, run-sided, run-accepted}

-- no tile has moved: every vector is 0, and so is every sum of residuals
pub record Unmoved (vectors vectors' : List ℤ) (r : Alignment) : Type 0 where
  pub found : vectors' ≡ zeros vectors
  pub sums : r.residuals ≡ no_sums

pub unmoved : {s : Shape} {reference : ℕ} {samples : List ℕ} {vectors vectors' : List ℤ} {r : Alignment} → Found s reference samples vectors vectors' r → Alike s reference samples → Unmoved vectors vectors' r
unfolding zeros
unmoved {s} {reference} {samples} f alike =
    let burst = f.lent.burst in
    record {
      found = f.vectors_are ∙ vectors-none s reference samples burst alike ∙ ap (λ n. replicate n (pos 0)) (sym f.lent.long);
      sums = f.sums_are ∙ sums_none s reference samples burst alike;
    }

module _ {s : Shape} {reference : ℕ} {samples : List ℕ} {vectors work work' : List ℤ} where
  pub align-still : {vectors' : List ℤ} {r : Alignment} → Aligned s reference samples vectors vectors' work work' r → r.refusal ≡ 0 →
      Alike s reference samples → Unmoved vectors vectors' r
  align-still call accepted alike = unmoved (align-accepted call accepted) alike

  module _ {noise : Noise} {tuning : Tuning} {output output' : List ℕ} where
    pub merge-strength-zero : {number : ℕ} → Merged s reference noise tuning samples vectors output output' work work' number → number ≡ 0 →
        tuning.spatial ≡ 0 → tuning.strength ≡ 0 → output' ≡ frame_words s samples reference
    merge-strength-zero call accepted plain off =
        let (lent, is) = merge-accepted call accepted in
        is ∙ StrengthZero.burst-back (merge_of s reference noise tuning) samples vectors lent.burst plain off

    pub merge-still : {number : ℕ} → Merged s reference noise tuning samples vectors output output' work work' number → number ≡ 0 →
        tuning.spatial ≡ 0 → Alike s reference samples → vectors ≡ zeros vectors → output' ≡ frame_words s samples reference
    unfolding zeros
    merge-still call accepted plain alike none =
        let (lent, is) = merge-accepted call accepted in
        let m = merge_of s reference noise tuning in
        is ∙ ap (λ v. merged (scene_of m samples v)) none ∙ StillMerge.burst-back m samples lent.burst alike plain (length vectors)

    pub run-strength-zero : {vectors' : List ℤ} {r : Alignment} → Ran s reference noise tuning samples vectors vectors' output output' work work' r → r.refusal ≡ 0 →
        tuning.spatial ≡ 0 → tuning.strength ≡ 0 → output' ≡ frame_words s samples reference
    run-strength-zero call accepted plain off =
        let (f, is) = run-accepted call accepted in
        is ∙ StrengthZero.burst-back (merge_of s reference noise tuning) samples (aligned_vectors s reference samples) f.lent.burst plain off

    pub run-still : {vectors' : List ℤ} {r : Alignment} → Ran s reference noise tuning samples vectors vectors' output output' work work' r → r.refusal ≡ 0 →
        tuning.spatial ≡ 0 → Alike s reference samples → Unmoved vectors vectors' r × (output' ≡ frame_words s samples reference)
    run-still call accepted plain alike =
        let (f, is) = run-accepted call accepted in
        (unmoved f alike, is ∙ run-back (merge_of s reference noise tuning) samples f.lent.burst alike plain)

-- two accepted calls of run, on the frames of one burst in two orders, leave the same output
pub run-shuffled : {s : Shape} {reference reference₂ : ℕ} {noise : Noise} {tuning : Tuning} {samples samples₂ : List ℕ} {vectors vectors' vectors₂ vectors₂' : List ℤ}
    {output output' output₂ output₂' : List ℕ} {work work' work₂ work₂' : List ℤ} {r r₂ : Alignment} {to from : ℕ → ℕ} →
    Ran s reference noise tuning samples vectors vectors' output output' work work' r → r.refusal ≡ 0 →
    Ran s reference₂ noise tuning samples₂ vectors₂ vectors₂' output₂ output₂' work₂ work₂' r₂ → r₂.refusal ≡ 0 →
    Shuffled s to from reference reference₂ samples samples₂ → output₂' ≡ output'
run-shuffled {s} {reference} {noise = noise} {tuning = tuning} call accepted call₂ accepted₂ sh =
    let (f, is) = run-accepted call accepted in
    let (_, is₂) = run-accepted call₂ accepted₂ in
    is₂ ∙ run-stays (merge_of s reference noise tuning) (run-sided call accepted) f.lent.burst sh ∙ sym is
