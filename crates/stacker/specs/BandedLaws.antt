-- What the call for a band owes where its tests refuse, and where they pass and its rows are merged by the levels that they found.
use Rattle.std.specs.Prelude.{◌≡◌}
use Rattle.stacker.specs.Prelude.{refl, sym, ap, ap₂, subst, ◌∙◌, List, ℕ, length, ℤ, zeros, Shape, band_shape_tests, Noise, noise_tests, Tuning, scene_of, merged, Tested, content_tests, value_tests, merge_of, BandTested}
use Rattle.refusals.specs.TestLaws.{among, passed, both-passed}
use Rattle.refusals.specs.AfterLaws.{kept, made}
use Rattle.admit_length.specs.BandLaws.{band-fits}
use Rattle.admit_value.specs.BoundLaws.{samples_fit, vectors_fit}
use Rattle.noise.specs.LevelLaws.{shot-level-bound, read-level-bound, strength_most, spatial-most}
use Rattle.admit_call.specs.FilterLaws.{unfiltered}
use Rattle.admit_call.specs.Bands.{band_refusal}
use Rattle.admit_call.specs.AdmissionLaws.{tested-number, tested-levels}
use Rattle.stacker.specs.Bands.{band, Banded}
use Rattle.stacker.specs.BandReady.{BandLent}
use Rattle.stacker.specs.CloseLaws.{output-close}
use Rattle.stacker.specs.CeilingLaws.{output-capped}
use Rattle.stacker.specs.RanLaws.{levelled}

band-passed : (s : Shape) (reference : ℕ) (noise : Noise) (tuning : Tuning) (top rows : ℕ) (samples : List ℕ) (vectors : List ℤ) (output : List ℕ) (work : List ℤ) →
    band_refusal s reference noise tuning top rows samples vectors output work ≡ 0 → BandLent (merge_of s reference noise tuning) top rows samples vectors (length output) (length work)
unfolding band_refusal content_tests
band-passed s reference noise tuning top rows samples vectors output work e =
    let both = both-passed (band_shape_tests s reference top rows (length samples) (length vectors) (length output) (length work)) _ e in
    let others = both-passed (value_tests s noise tuning samples) _ both.1 in
    let content = (both-passed (noise_tests noise) (content_tests s tuning samples) others.0).1 in
    let fits = band-fits s reference top rows (length samples) (length vectors) (length output) (length work) both.0 in
    record {
      accepted = record {
        burst = fits.burst;
        side_is = refl;
        samples_fit = samples_fit s samples (passed content (search among));
        vectors_fit = vectors_fit vectors (passed others.1 (search among));
        shot_most = shot-level-bound noise;
        read_most = read-level-bound noise;
        strength_most = strength_most tuning.strength (passed content (search among));
        spatial-most = spatial-most tuning.spatial (passed content (search among));
        unfiltered = unfiltered s.side tuning.spatial (passed content (search among));
      };
      band = fits.band;
      output_long = fits.output_long;
      work_long = fits.work_long;
    }

module _ {s : Shape} {reference : ℕ} {noise : Noise} {tuning : Tuning} {top rows : ℕ} {samples : List ℕ} {vectors : List ℤ} {output : List ℕ} {work : List ℤ} {tested : Tested}
    (t : BandTested s reference noise tuning top rows samples vectors output work tested) where
  number : tested.refusal ≡ band_refusal s reference noise tuning top rows samples vectors output work
  number = tested-number _ _ t.answer

  pub banded-refused : (tested.refusal ≡ 0 → ⊥) → Banded s reference noise tuning top rows samples vectors output output work work tested.refusal
  banded-refused h = record { answer = number; result = kept _ _ _ number h; clean = kept _ _ _ number h; near = λ z. absurd (h z); ceiling = λ z. absurd (h z) }

  module _ (z : tested.refusal ≡ 0) where
    -- a merge with the levels that the tests found is the noise's
    same : levelled s reference tuning tested ≡ merge_of s reference noise tuning
    same =
        let levels = tested-levels _ _ t.answer z in
        ap₂ (λ shot read. record { shape = s; reference = reference; shot = shot; read = read; tuning = tuning }) levels.0 levels.1

    ready : BandLent (merge_of s reference noise tuning) top rows samples vectors (length output) (length work)
    ready = band-passed s reference noise tuning top rows samples vectors output work (sym number ∙ z)

    pub band-lent : BandLent (levelled s reference tuning tested) top rows samples vectors (length output) (length work)
    band-lent = subst (λ m. BandLent m top rows samples vectors (length output) (length work)) (sym same) ready

    pub banded-accepted : {output' : List ℕ} {work' : List ℤ} → output' ≡ band s.width top rows (merged (scene_of (levelled s reference tuning tested) samples vectors)) → work' ≡ zeros work →
        Banded s reference noise tuning top rows samples vectors output output' work work' 0
    banded-accepted is clear =
        let result = is ∙ ap (λ m. band s.width top rows (merged (scene_of m samples vectors))) same in
        let ok = ready.accepted in
        record {
          answer = sym z ∙ number;
          result = made _ _ _ number z result;
          clean = made _ _ _ number z clear;
          near = λ _. output-close _ _ ok.burst.allowed ok.burst.sided ok.unfiltered _ _ top rows ready.band.inside result;
          ceiling = λ _. output-capped _ _ ok.burst ok.samples_fit _ _ top rows ready.band.inside result;
        }
