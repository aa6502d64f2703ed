-- What reading owes where it has refused with a number, and where it has accepted.
use Rattle.std.specs.Prelude.{◌≡◌}
use Rattle.file_dng.specs.Prelude.{refl, sym, ap, ◌∙◌, List, ℕ, zero, suc, length, pos, binary64, mul, of_int, after, Shape, Entry, strip_start, filled_rows}
use Rattle.refusals.specs.AfterLaws.{kept, made, result-made}
use Rattle.file_dng.specs.declared.DngRead.{DngRead}
use Rattle.file_dng.specs.Refusals.{dng_refusal}
use Rattle.file_dng.specs.Reading.{noise_s, noise_o, refused_dng, accepted_dng, dng_answer, filled, FrameReadBy}

module _ (file : List ℕ) (es : List Entry) (s : Shape) (frame : ℕ) (samples : List ℕ) where
  abbrev of : ℕ
  of = dng_refusal file es s frame (length samples)

  module _ {number : ℕ} {answer : DngRead} (is : number ≡ dng_refusal file es s frame (length samples)) where
    -- a refusal, and the samples as they were
    pub refusal : (number ≡ 0 → ⊥) → answer ≡ refused_dng number → FrameReadBy es file s frame samples answer samples
    unfolding dng_answer
    refusal h a =
        record {
          answered = a ∙ ap refused_dng is ∙ kept of (refused_dng of) (accepted_dng file es) is h;
          stored = kept of samples (filled file es s frame samples) is h;
        }

    -- acceptance, and the strip's samples in the frame
    pub acceptance : {samples' : List ℕ} → number ≡ 0 → answer ≡ accepted_dng file es → samples' ≡ filled file es s frame samples → FrameReadBy es file s frame samples answer samples'
    unfolding dng_answer
    acceptance z a f =
        record {
          answered = made of (refused_dng of) (accepted_dng file es) is z a;
          stored = made of samples (filled file es s frame samples) is z f;
        }

-- the strip that was stored is the file's
pub filled-by : (file : List ℕ) (es : List Entry) (s : Shape) (frame : ℕ) (samples samples' : List ℕ) (start : ℕ) → start ≡ strip_start file es →
    samples' ≡ filled_rows file start s frame s.height samples → samples' ≡ filled file es s frame samples
filled-by file es s frame samples samples' start e f = f ∙ ap (λ n. filled_rows file n s frame s.height samples) e

-- the number is in the answer
pub answer-number : {es : List Entry} {file : List ℕ} {s : Shape} {frame : ℕ} {samples : List ℕ} {answer : DngRead} {samples' : List ℕ} → FrameReadBy es file s frame samples answer samples' →
    answer.refusal ≡ dng_refusal file es s frame (length samples)
unfolding dng_answer after
answer-number {es} {file} {s} {frame} {samples} r = ap (λ a. a.refusal) r.answered ∙ from (dng_refusal file es s frame (length samples))
  where
    from : (number : ℕ) → (dng_answer number file es).refusal ≡ number
    from zero = refl
    from (suc number) = refl

-- the curve is "shot = S times 4095, read = (O times 4095) times 4095, as f64 operations in that order", untested
pub curve-read : {es : List Entry} {file : List ℕ} {s : Shape} {frame : ℕ} {samples : List ℕ} {answer : DngRead} {samples' : List ℕ} → FrameReadBy es file s frame samples answer samples' →
    answer.refusal ≡ 0 → (answer.shot ≡ mul binary64 (noise_s file es) (of_int binary64 (pos 4095)))
    × (answer.read ≡ mul binary64 (mul binary64 (noise_o file es) (of_int binary64 (pos 4095))) (of_int binary64 (pos 4095)))
unfolding dng_answer
curve-read {es} {file} {s} {frame} {samples} r z =
    let number = dng_refusal file es s frame (length samples) in
    let is = result-made number (refused_dng number) (accepted_dng file es) (sym (answer-number r) ∙ z) r.answered in
    (ap (λ a. a.shot) is, ap (λ a. a.read) is)
