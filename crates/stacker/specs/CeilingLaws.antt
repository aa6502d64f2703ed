-- Request L11 at the calls: an output that is the merge keeps under the ceiling where s is 0, whatever the vectors are.
use Rattle.std.specs.Prelude.{◌≡◌, ◌+◌, ◌≤◌}
use Rattle.stacker.specs.Prelude.{sym, ap, subst, ◌∙◌, List, ℕ, arith, ℤ, pos, BurstFits, SamplesFit, Merge, scene_at, scene_of, merged}
use Rattle.recipe.specs.SideLaws.{by-table}
use Rattle.closeness.specs.Closeness.{Fitting}
use Rattle.closeness.specs.Side16.{fitting16}
use Rattle.closeness.specs.Side32.{fitting32}
use Rattle.closeness.specs.Ceiling.Ceiling.{Circle}
use Rattle.closeness.specs.Ceiling.Sides.{circle16, circle32}
use Rattle.closeness.specs.Ceiling.Leak.{largest_over, leak, UnderCeiling}
use Rattle.closeness.proofs.Ceiling.MergedCapped.{merged-capped}
use Rattle.stacker.specs.Calls.{Capped}
use Rattle.stacker.specs.Bands.{band}
use Rattle.stacker.specs.BandLaws.{band-every, band-all}

module _ (m : Merge) (samples : List ℕ) {long wide : ℕ} (fits : BurstFits m.shape m.reference long wide) (small : SamplesFit m.shape samples) where
  pub output-capped : (vectors : List ℤ) (output : List ℕ) (top rows : ℕ) → top + rows ≤ m.shape.height → output ≡ band m.shape.width top rows (merged (scene_of m samples vectors)) →
      Capped (scene_of m samples vectors) top rows output
  unfolding scene_at
  output-capped vectors output top rows inside e =
      let scene = scene_of m samples vectors in
      subst (Capped scene top rows) (sym e)
      (record {
        capped = λ off.
            band-every (λ word row column. UnderCeiling scene.side (leak (pos word) (pos (scene.reference row column))) (largest_over scene row column)) scene.width scene.height (merged scene)
            (merged-capped scene (by-table fits.sided (λ _ n. Fitting n 379633849 4096) fitting16 fitting32) (by-table fits.sided (λ _ n. Circle n 268441669 379633849) circle16 circle32) (omega (arith, fits.allowed.few))
            (λ row column h k. small.most m.reference row column fits.reference_below h k) off) (omega (arith, fits.allowed.wide.least)) top rows inside;
      })

  -- the whole frame, with the vectors as a buffer holds them
  pub found-capped : (vectors held : List ℤ) (output : List ℕ) → held ≡ vectors → output ≡ merged (scene_of m samples vectors) → Capped (scene_of m samples held) 0 m.shape.height output
  unfolding scene_at
  found-capped vectors held output v e =
      output-capped held output 0 m.shape.height (omega arith) (e ∙ ap (λ l. merged (scene_of m samples l)) (sym v) ∙ sym (band-all (scene_of m samples held)))
