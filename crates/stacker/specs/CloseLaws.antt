-- Demand 3 at the calls: an output that is the merge is close to the exact merge.
use Rattle.std.specs.Prelude.{◌≡◌, ◌+◌, ◌≤◌, ◌<◌}
use Rattle.stacker.specs.Prelude.{refl, sym, ap, subst, ◌∙◌, List, ℕ, arith, ℤ, pos, Allowed, TileSide, Merge, merged, scene_at, scene_of}
use Rattle.algebra.specs.Fraction.{whole, Within}
use Rattle.recipe.specs.Tables.{side16}
use Rattle.recipe.specs.Tables32.{side32}
use Rattle.recipe.specs.Sides.{side_of}
use Rattle.recipe.specs.ExactMerge.{exact_at, exact_filtered_at}
use Rattle.recipe.specs.SideLaws.{by-table}
use Rattle.closeness.proofs.Spatial.MergedClose.{merged-close, merged-close-32, merged-two-steps}
use Rattle.stacker.specs.Calls.{Close}
use Rattle.stacker.specs.Bands.{band}
use Rattle.stacker.specs.BandLaws.{band-every, band-all}

few : (m : Merge) (samples : List ℕ) (vectors : List ℤ) → m.shape.count ≤ 8 → (scene_of m samples vectors).others ≤ 7
unfolding scene_at
few m samples vectors h = omega arith

-- a side is known by its number
module _ {n : ℕ} (t : TileSide n) where
  of_16 : (side_of n).side ≡ 16 → side_of n ≡ side16
  unfolding side16 side32
  of_16 = by-table t (λ n s. s.side ≡ 16 → s ≡ side16) (λ e. refl) (λ e. absurd (omega (arith, e)))

  of-32 : (side_of n).side ≡ 32 → (side_of n ≡ side32) × (n ≡ 32)
  unfolding side16 side32
  of-32 = by-table t (λ n s. s.side ≡ 32 → (s ≡ side32) × (n ≡ 32)) (λ e. absurd (omega (arith, e))) (λ e. (refl, refl))

module _ (m : Merge) (samples : List ℕ) (ok : Allowed m.shape) (t : TileSide m.shape.side) (off : m.shape.side ≡ 32 → m.tuning.spatial ≡ 0) where
  pub output-close : (vectors : List ℤ) (output : List ℕ) (top rows : ℕ) → top + rows ≤ m.shape.height → output ≡ band m.shape.width top rows (merged (scene_of m samples vectors)) →
      Close (scene_of m samples vectors) top rows output
  unfolding scene_at
  output-close vectors output top rows inside e =
      let scene = scene_of m samples vectors in
      let others = few m samples vectors ok.few in
      let wide : 0 < m.shape.width = omega (arith, ok.wide.least) in
      subst (Close scene top rows) (sym e)
      (record {
        filtered = λ n. band-every (λ word row column. Within 2 1 (whole (pos word)) (exact_filtered_at scene row column)) scene.width scene.height (merged scene) (merged-two-steps scene (of_16 t n) others) wide top rows inside;
        close = λ n none. band-every (λ word row column. Within 5 8 (whole (pos word)) (exact_at scene row column)) scene.width scene.height (merged scene) (merged-close scene (of_16 t n) others none) wide top rows inside;
        wide = λ n.
            let known = of-32 t n in
            band-every (λ word row column. Within 1 1 (whole (pos word)) (exact_at scene row column)) scene.width scene.height (merged scene) (merged-close-32 scene known.0 others (off known.1)) wide top rows inside;
      })

  -- the whole frame, with the vectors as a buffer holds them
  pub found-close : (vectors held : List ℤ) (output : List ℕ) → held ≡ vectors → output ≡ merged (scene_of m samples vectors) → Close (scene_of m samples held) 0 m.shape.height output
  unfolding scene_at
  found-close vectors held output v e =
      output-close held output 0 m.shape.height (omega arith) (e ∙ ap (λ l. merged (scene_of m samples l)) (sym v) ∙ sym (band-all (scene_of m samples held)))
