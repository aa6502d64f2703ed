-- `pipeline::run_levels`: the vectors found are those that align defines, so they fit, and the merge is theirs.
use Rattle.algebra.specs.Prelude.{refl, sym, ap, subst, ◌∙◌, rules}
use Rattle.sequences.specs.ClearLaws.{zeros-length}
use Rattle.geometry.specs.Fits.{VectorsFit}
use Rattle.recipe.specs.Scene.{scene_of}
use Rattle.recipe.specs.Merged.{merged}
use Rattle.pipeline.specs.FoundLaws.{found-fit}
use Rattle.pipeline.proofs.run_levels as of

align-frames-requires : of.Tie.Need-align_frames-totals-requires
align-frames-requires c κs =
    let ready = c.requires in
    record { fits = record { burst = ready.fits.burst; work_long = ready.fits.work_long }; samples_fit = ready.samples_fit }

merge-frames-requires : of.Tie.Need-merge_frames-requires
merge-frames-requires c κs =
    let frames = c in
    let ready = frames.requires in
    record {
      accepted = record {
        burst = record {
          allowed = ready.fits.burst.allowed;
          sided = ready.fits.burst.sided;
          reference_below = ready.fits.burst.reference_below;
          samples_long = ready.fits.burst.samples_long;
          vectors_long = search rules;
        };
        side_is = refl;
        samples_fit = ready.samples_fit;
        vectors_fit = subst VectorsFit (sym frames.align_frames-totals.ensures.found) (found-fit _ _ _);
        shot_most = ready.shot_most;
        read_most = ready.read_most;
        strength_most = ready.strength_most;
        spatial-most = ready.spatial-most;
        unfiltered = ready.unfiltered;
      };
      output_long = ready.fits.output_long;
      work_long = frames.align_frames-totals.ensures.same ∙ ready.fits.work_long;
    }

returns : of.Tie.Need-returns
returns c =
    let merge = c in
    let frames = merge in
    let aligned = frames.align_frames-totals.ensures in
    let a = frames.args in
    record {
      sums_are = aligned.sums_are;
      rows_are = aligned.rows_are;
      found = aligned.found;
      result = merge.merge_frames.ensures ∙ ap (λ v. merged (scene_of a.m a.samples.now v)) aligned.found;
      clean = c.clear.ensures ∙ zeros-length _ _ (search rules);
    }

pub run_levels_spec : {M : Type 1} → of.Statement.statement M
run_levels_spec = of.Tie.close (of.Tie.spec
    align-frames-requires merge-frames-requires (λ c κs. search rules) (λ c. search rules)
    (λ c. search rules) (λ c. search rules) returns)
