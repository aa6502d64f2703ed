-- The answer of tests that find the noise's levels. Inner vocabulary.
use Rattle.std.specs.Prelude.{Result, Ok, Err, ◌≡◌}
use Rattle.admit_call.specs.Prelude.{List, ℕ, ℤ, Shape, Noise, levels_of, shot_level, read_level, Tuning}
use Rattle.refusals.specs.After.{after}
use Rattle.refusals.specs.declared.Refusal.{Refusal}
use Rattle.refusals.specs.Refused.{refusal_number}
use Rattle.noise.specs.declared.Levels as code
use Rattle.noise.specs.Levels.{Levels}
use Rattle.admit_call.specs.Refusals.{run_refusal}
use Rattle.admit_call.specs.Bands.{band_refusal}

-- what the tests answer: the refusal's number, or 0, and the levels
pub record Tested : Type 0 where
  pub refusal : ℕ
  pub shot : ℕ
  pub read : ℕ

-- the code's answer, as that
abbrev pub tested_in : Result code.Levels Refusal → Tested
tested_in (Ok levels) = record { refusal = 0; shot = levels.shot; read = levels.read }
tested_in (Err refusal) = record { refusal = refusal_number refusal; shot = 0; read = 0 }

-- "beside a refusal every other returned field is 0": the levels
unfoldable pub tested_as : (number : ℕ) → Levels → Tested
tested_as number levels = record { refusal = number; shot = after number 0 (shot_level levels); read = after number 0 (read_level levels) }

pub record RunTested (s : Shape) (reference : ℕ) (noise : Noise) (tuning : Tuning) (samples : List ℕ) (vectors : List ℤ) (output : List ℕ) (work : List ℤ) (r : Tested) : Type 0 where
  pub answer : r ≡ tested_as (run_refusal s reference noise tuning samples vectors output work) (levels_of noise)

pub record BandTested (s : Shape) (reference : ℕ) (noise : Noise) (tuning : Tuning) (top rows : ℕ) (samples : List ℕ) (vectors : List ℤ) (output : List ℕ) (work : List ℤ) (r : Tested) : Type 0 where
  pub answer : r ≡ tested_as (band_refusal s reference noise tuning top rows samples vectors output work) (levels_of noise)
