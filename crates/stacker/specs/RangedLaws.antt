-- What the tests of request L14's call let through, and what it owes where it has refused and where it has accepted.
use Rattle.std.specs.Prelude.{◌≡◌, ◌∷◌, ◌++◌, ◌*◌, ◌≤◌}
use Rattle.stacker.specs.Prelude.{refl, sym, ap, ap₂, subst, ◌∙◌, List, [], ℕ, arith, length, get_or, ℤ, zeros, first, Shape, work_length, Allowed, MergeFits, Noise, levels_of, shot_level, read_level, Merge, Tuning, Scene, scene_at, scene_of, merged, merge_of}
use Rattle.std.proofs.Common.{mul-le-mul_left}
use Rattle.refusals.specs.TestLaws.{among, passed, both-passed}
use Rattle.refusals.specs.AfterLaws.{kept, made}
use Rattle.admit_value.specs.Bounds.{vector_refusal}
use Rattle.admit_value.specs.BoundLaws.{samples_fit, vectors_fit}
use Rattle.noise.specs.declared.Noise.TheVariants.{Measured}
use Rattle.noise.specs.Curve.{curve_of}
use Rattle.noise.specs.LevelLaws.{shot-level-bound, read-level-bound, strength_most}
use Rattle.range.specs.Crossed.{NoneAbove, range_noise_tests}
use Rattle.range.specs.Frames.{low_frame, high_frame}
use Rattle.range.proofs.FrameLaws.{low-frame-same, high-frame-same}
use Rattle.range.specs.CurveLaws.{range-passed, levels-rise}
use Rattle.range.proofs.CurveLaws.{curve-inside}
use Rattle.admit_range.specs.Refusals.{range_shape_tests, range_content_tests, range_refusal}
use Rattle.admit_range.specs.RefusalLaws.{range-fits, range-side, high_long, unfiltered}
use Rattle.merge_tiles.specs.Rows.{row_words}
use Rattle.range_tiles.specs.declared.Upper.{Upper}
use Rattle.range_tiles.specs.EndSums.{raised}
use Rattle.range_frame.specs.Ready.{RangeLent}
use Rattle.stacker.specs.Ranged.{Ranged}

-- the levels of the upper noise
abbrev pub upper_of : Noise → Upper
upper_of noise = record { shot = shot_level (levels_of noise); read = read_level (levels_of noise) }

-- what both frames require, the merge among them where the levels are equal: its work area and no spatial filter
pub record FramesLent (m : Merge) (upper : Upper) (samples : List ℕ) (vectors : List ℤ) (low high work : ℕ) : Type 0 where
  pub lent : RangeLent m upper samples vectors low high work
  pub work_long : work ≡ work_length m.shape
  pub off : m.tuning.spatial ≡ 0

-- two rows of pairs of both ends lie in the work area
rows_fit : {s : Shape} → Allowed s → 4 * row_words 16 s.width ≤ work_length s
unfolding row_words work_length
rows_fit {s} ok = omega (arith, mul-le-mul_left {m = 64} {n = s.height} s.width ok.high.least)

-- where both noises have the same levels, both frames are the merge
module _ (m : Merge) (upper : Upper) (samples : List ℕ) (vectors : List ℤ) (off : m.tuning.spatial ≡ 0) (same : (m.shot ≡ upper.shot) × (m.read ≡ upper.read)) where
  abbrev scene : Scene
  scene = scene_of m samples vectors

  off-in : scene.tuning.spatial ≡ 0
  unfolding scene_at
  off-in = off

  one-scene : scene_of (raised m upper) samples vectors ≡ scene
  one-scene = ap₂ (λ shot read. scene_of (record { shape = m.shape; reference = m.reference; shot = shot; read = read; tuning = m.tuning }) samples vectors) (sym same.0) (sym same.1)

  pub low_merged : low_frame scene (scene_of (raised m upper) samples vectors) ≡ merged scene
  low_merged = ap (low_frame scene) one-scene ∙ low-frame-same scene off-in

  pub high-merged : high_frame scene (scene_of (raised m upper) samples vectors) ≡ merged scene
  high-merged = ap (high_frame scene) one-scene ∙ high-frame-same scene off-in

pub ranged-refused : {s : Shape} {reference : ℕ} {lower upper : Noise} {tuning : Tuning} {samples : List ℕ} {vectors : List ℤ} {low high : List ℕ} {work : List ℤ} {number : ℕ} →
    number ≡ range_refusal s reference lower upper tuning samples vectors low high work → (number ≡ 0 → ⊥) → Ranged s reference lower upper tuning samples vectors low low high high work work number
ranged-refused e h =
    record { answer = e; lows = kept _ _ _ e h; highs = kept _ _ _ e h; clean = kept _ _ _ e h; inside = λ z. absurd (h z); same = λ z. absurd (h z) }

module _ (s : Shape) (reference : ℕ) (lower upper : Noise) (tuning : Tuning) (samples : List ℕ) (vectors : List ℤ) (low high : List ℕ) (work : List ℤ) where
  abbrev at : Noise → Scene
  at noise = scene_of (merge_of s reference noise tuning) samples vectors

  module _ (e : range_refusal s reference lower upper tuning samples vectors low high work ≡ 0) where
    abbrev length_tests : List ℕ
    length_tests = range_shape_tests s reference (length samples) (length vectors) (length low) (length high) (length work)

    parts : (first length_tests ≡ 0) × (first (range_noise_tests lower upper ++ (range_content_tests s tuning samples ++ vector_refusal vectors ∷ [])) ≡ 0)
    unfolding range_refusal
    parts = both-passed length_tests _ e

    noises : first (range_noise_tests lower upper) ≡ 0
    noises = (both-passed (range_noise_tests lower upper) _ parts.1).0

    content : first (range_content_tests s tuning samples ++ vector_refusal vectors ∷ []) ≡ 0
    content = (both-passed (range_noise_tests lower upper) _ parts.1).1

    range-off : tuning.spatial ≡ 0
    unfolding range_content_tests
    range-off = unfiltered tuning.spatial (passed content (search among depth 20))

    fits : MergeFits s reference (length samples) (length vectors) (length low) (length work)
    fits = range-fits s reference (length samples) (length vectors) (length low) (length high) (length work) parts.0

    range-work : length work ≡ work_length s
    range-work = fits.work_long

    range-lent : RangeLent (merge_of s reference lower tuning) (upper_of upper) samples vectors (length low) (length high) (length work)
    unfolding range_content_tests
    range-lent =
        record {
          accepted = record {
            burst = fits.burst;
            side_is = range-side s reference (length samples) (length vectors) (length low) (length high) (length work) parts.0;
            samples_fit = samples_fit s samples (passed content (search among depth 20));
            vectors_fit = vectors_fit vectors (passed content (search among depth 20));
            shot_most = shot-level-bound lower;
            read_most = read-level-bound lower;
            strength_most = strength_most tuning.strength (passed content (search among depth 20));
            spatial-most = omega (arith, range-off);
            unfiltered = λ _. range-off;
          };
          upper_fits = record { shot_most = shot-level-bound upper; read_most = read-level-bound upper };
          low_long = fits.output_long;
          high_long = high_long s reference (length samples) (length vectors) (length low) (length high) (length work) parts.0;
          room = omega (arith, rows_fit fits.burst.allowed, range-work);
        }

    pub frames-lent : FramesLent (merge_of s reference lower tuning) (upper_of upper) samples vectors (length low) (length high) (length work)
    frames-lent = record { lent = range-lent; work_long = range-work; off = range-off }

    -- equal curves have equal levels
    same-levels : NoneAbove (curve_of lower) (curve_of upper) → NoneAbove (curve_of upper) (curve_of lower) → (shot_level (levels_of lower) ≡ shot_level (levels_of upper)) × (read_level (levels_of lower) ≡ read_level (levels_of upper))
    same-levels h k =
        let accepted = range-passed lower upper noises in
        let rise = levels-rise lower upper accepted.lower_accepted accepted.upper_accepted h in
        let fall = levels-rise upper lower accepted.upper_accepted accepted.lower_accepted k in
        (omega (arith, rise.0, fall.0), omega (arith, rise.1, fall.1))

    pub ranged-accepted : {low' high' : List ℕ} {work' : List ℤ} → low' ≡ low_frame (at lower) (at upper) → high' ≡ high_frame (at lower) (at upper) → work' ≡ zeros work →
        Ranged s reference lower upper tuning samples vectors low low' high high' work work' 0
    ranged-accepted {low'} {high'} is-low is-high is-clear =
        record {
          answer = sym e;
          lows = made _ _ _ (sym e) refl is-low;
          highs = made _ _ _ (sym e) refl is-high;
          clean = made _ _ _ (sym e) refl is-clear;
          inside = λ _ c h k i j.
              let accepted = range-passed lower upper noises in
              let between = curve-inside lower upper c accepted.lower_accepted accepted.upper_accepted h k s reference tuning samples vectors range-off i j in (
                subst (λ l. get_or l i 0 ≤ get_or (merged (at (Measured c))) i 0) (sym is-low) between.0,
                subst (λ l. get_or (merged (at (Measured c))) i 0 ≤ get_or l i 0) (sym is-high) between.1,
              );
          same = λ _ h k. (
            is-low ∙ low_merged (merge_of s reference lower tuning) (upper_of upper) samples vectors range-off (same-levels h k),
            is-high ∙ high-merged (merge_of s reference lower tuning) (upper_of upper) samples vectors range-off (same-levels h k),
          );
        }
