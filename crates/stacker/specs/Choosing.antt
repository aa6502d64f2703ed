-- The run that chooses its reference: request L1.
use Rattle.std.specs.Prelude.{◌≡◌, ◌∷◌, ◌++◌}
use Rattle.stacker.specs.Prelude.{List, ℕ, length, ℤ, first, after, Shape, side_refusal, row_refusal, shape_tests, merge_lengths, Noise, noise_tests, Tuning, content_tests}
use Rattle.sharpness.specs.Sharpness.{sharpest}
use Rattle.stacker.specs.declared.Choice.{Choice}
use Rattle.stacker.specs.Calls.{Ran}

-- "Refusal 3 has no place in this call": the others of run, in its order, with 22 "where 3 would stand" (request L8)
unfoldable pub choosing_tests : Shape → Noise → Tuning → (samples : List ℕ) (vectors : List ℤ) (output : List ℕ) (work : List ℤ) → List ℕ
choosing_tests s noise tuning samples vectors output work =
    shape_tests s ++ (side_refusal s ∷ row_refusal s ∷ merge_lengths s (length samples) (length vectors) (length output) (length work) ++ (noise_tests noise ++ content_tests s tuning samples))

abbrev pub choosing_refusal : Shape → Noise → Tuning → (samples : List ℕ) (vectors : List ℤ) (output : List ℕ) (work : List ℤ) → ℕ
choosing_refusal s noise tuning samples vectors output work = first (choosing_tests s noise tuning samples vectors output work)

pub record Chosen (s : Shape) (noise : Noise) (tuning : Tuning) (samples : List ℕ) (vectors vectors' : List ℤ) (output output' : List ℕ) (work work' : List ℤ) (r : Choice) : Type 0 where
  pub number : r.alignment.refusal ≡ choosing_refusal s noise tuning samples vectors output work
  -- "The new call reports the chosen index": 0 beside a refusal
  pub chosen : r.reference ≡ after (choosing_refusal s noise tuning samples vectors output work) 0 (sharpest s samples)
  -- "its merged frame, vectors, other answers and refusals are those run gives with that index"
  pub ran : Ran s r.reference noise tuning samples vectors vectors' output output' work work' r.alignment
