-- What the answer of the tests says where it refuses, and where it accepts.
use Rattle.std.specs.Prelude.{Ok, Err, ◌≡◌, ◌++◌}
use Rattle.admit_call.specs.Prelude.{refl, sym, ap, ◌∙◌, List, ℕ, zero, suc, arith, first, shot_level, read_level}
use Rattle.refusals.specs.TestLaws.{stops, goes}
use Rattle.refusals.specs.After.{after}
use Rattle.refusals.specs.AfterLaws.{result-made}
use Rattle.refusals.specs.declared.Refusal.{Refusal}
use Rattle.refusals.specs.Refused.{refusal_number}
use Rattle.refusals.specs.RefusedLaws.{some-number}
use Rattle.noise.specs.declared.Levels as code
use Rattle.noise.specs.Levels.{Levels, Found}
use Rattle.admit_call.specs.Admission.{Tested, tested_in, tested_as}

pub tested-refused : (number : ℕ) (levels : Levels) {k : ℕ} → k ≡ number → (k ≡ 0 → ⊥) → ◌≡◌ {A = Tested} (record { refusal = k; shot = 0; read = 0 }) (tested_as number levels)
unfolding tested_as after
tested-refused zero levels e h = absurd (h e)
tested-refused (suc n) levels e h = ap (λ k. record { refusal = k; shot = 0; read = 0 }) e

pub tested-accepted : (number : ℕ) (levels : Levels) {k shot read : ℕ} → k ≡ number → k ≡ 0 → shot ≡ shot_level levels → read ≡ read_level levels →
    ◌≡◌ {A = Tested} (record { refusal = k; shot = shot; read = read }) (tested_as number levels)
unfolding tested_as after
tested-accepted zero levels e z p q = rw (e, p, q)
tested-accepted (suc n) levels e z p q = absurd (omega arith)

-- tests before it that have passed, and tests behind it where it refuses
module _ {r : Tested} (tests others : List ℕ) (levels : Levels) where
  pub tested-goes : first tests ≡ 0 → r ≡ tested_as (first others) levels → r ≡ tested_as (first (tests ++ others)) levels
  tested-goes z e = e ∙ ap (λ n. tested_as n levels) (goes tests others (sym z) refl refl)

  pub tested-stops : (first tests ≡ 0 → ⊥) → r ≡ tested_as (first tests) levels → r ≡ tested_as (first (tests ++ others)) levels
  tested-stops h e = e ∙ ap (λ n. tested_as n levels) (stops tests others refl h)

  -- tests behind it that pass as it does
  pub tested-passes : first tests ≡ 0 → first others ≡ 0 → r ≡ tested_as (first tests) levels → r ≡ tested_as (first (tests ++ others)) levels
  tested-passes z p e = e ∙ ap (λ n. tested_as n levels) (z ∙ goes tests others (sym z) refl (sym p))

-- the fields of the answer
module _ {r : Tested} (number : ℕ) (levels : Levels) (e : r ≡ tested_as number levels) where
  pub tested-number : r.refusal ≡ number
  unfolding tested_as
  tested-number = ap (λ r. r.refusal) e

  pub tested-levels : r.refusal ≡ 0 → (r.shot ≡ shot_level levels) × (r.read ≡ read_level levels)
  unfolding tested_as
  tested-levels z =
      let passed : number ≡ 0 = sym tested-number ∙ z in
      (result-made number 0 _ passed (ap (λ r. r.shot) e), result-made number 0 _ passed (ap (λ r. r.read) e))

-- the code's refusal, and the levels that it lets through
pub refused_as : (refusal : Refusal) (number : ℕ) (levels : Levels) → refusal_number refusal ≡ number → tested_in (Err refusal) ≡ tested_as number levels
refused_as refusal number levels e = tested-refused number levels e (λ z. let some = some-number refusal in absurd (omega (arith, z, some)))

pub accepted_as : (found : code.Levels) (number : ℕ) (levels : Levels) → 0 ≡ number → Found found.shot found.read ≡ levels → tested_in (Ok found) ≡ tested_as number levels
accepted_as found number levels z e = tested-accepted number levels z refl (ap shot_level e) (ap read_level e)
