-- What the noise question answers, by the levels that were found or refused.
use mathlib.Core.Path.{◌≡◌, refl, sym}
use mathlib.Core.Bool.{Bool, true, false, ◌&&◌, ◌||◌, cond, true≢false}
use mathlib.Core.List.{[], ◌∷◌}
use Prim.Native.Nat.{ℕ, ◌*◌, ◌≤◌, ◌<◌}
use lib.Dec.{eqb, leb}
use native.Mathlib.Omega.{arith}
use borrow.Author.Tests.{le-leb, lt-leb, ne_eqb, eqb-true}
use Rattle.refusals.specs.Tests.{first}
use Rattle.refusals.specs.TestLaws.{lone}
use Rattle.geometry.specs.Shape.{side_allowed}
use Rattle.std.specs.Prelude.{Result, Ok, Err}
use Rattle.std.specs.Result.{is_err}
use Rattle.refusals.specs.declared.Refusal.{Refusal}
use Rattle.refusals.specs.Refused as code
use Rattle.refusals.specs.RefusedLaws.{some-number}
use Rattle.noise.specs.Levels.{Found, Refused, strength_refusal}
use Rattle.recipe.specs.Sides.{side_of}
use Rattle.recipe.specs.NoiseNumber.{noise_number}
use Rattle.noise.specs.NoiseNumberLaws.{noise-number-none}
use Rattle.station.specs.Station.{noise_answer}

either : (b : Bool) {n : ℕ} → n ≡ 0 → 0 ≡ cond b n 0
either true e = sym e
either false e = refl

pub refused : (number strength root side : ℕ) → 0 ≡ noise_answer (Refused number) strength root side
unfolding noise_answer
refused number strength root side = either (eqb (first (number ∷ strength_refusal strength ∷ [])) 0 && (side_allowed side && leb root (4095 * side))) (noise-number-none (side_of side) strength root)

module _ (ls lr strength root side : ℕ) where
  pub too-strong : (strength_refusal strength ≡ 0 → ⊥) → 0 ≡ noise_answer (Found ls lr) strength root side
  unfolding noise_answer first
  too-strong h = rw (← lone (strength_refusal strength), ne_eqb (strength_refusal strength) 0 h)

  module _ (e : strength_refusal strength ≡ 0) where
    pub other-side : side_allowed side ≡ false → 0 ≡ noise_answer (Found ls lr) strength root side
    unfolding noise_answer first
    other-side h = rw (e, h)

    pub too-bright : side_allowed side ≡ true → 4095 * side < root → 0 ≡ noise_answer (Found ls lr) strength root side
    unfolding noise_answer first
    too-bright h l = rw (e, h, lt-leb _ _ l)

    pub numbered : side_allowed side ≡ true → root ≤ 4095 * side → noise_number (side_of side) strength ls lr root ≡ noise_answer (Found ls lr) strength root side
    unfolding noise_answer first
    numbered h l = rw (e, h, le-leb _ _ l)

-- a test's number, by whether it refused
module _ {number : ℕ} where
  pub test-refused : (test : Result (Unit {0}) Refusal) → code.answer_of test ≡ number → is_err test ≡ true → number ≡ 0 → ⊥
  test-refused (Ok value) e h z = absurd (true≢false (sym h))
  test-refused (Err refusal) e h z = let some = some-number refusal in absurd (omega (arith, e, z, some))

  pub test-passed : (test : Result (Unit {0}) Refusal) → code.answer_of test ≡ number → is_err test ≡ false → number ≡ 0
  test-passed (Ok value) e h = sym e
  test-passed (Err refusal) e h = absurd (true≢false h)

-- a side that is known is at most 32
pub side-most : (side : ℕ) → side_allowed side ≡ true → side ≤ 32
unfolding side_allowed
side-most side e = go (eqb side 16) (eqb-true side 16) (eqb side 32) (eqb-true side 32) e
  where
    go : (a : Bool) → (a ≡ true → side ≡ 16) → (b : Bool) → (b ≡ true → side ≡ 32) → (a || b) ≡ true → side ≤ 32
    go true f b g h = omega (arith, f refl)
    go false f true g h = omega (arith, g refl)
    go false f false g h = absurd (true≢false (sym h))
