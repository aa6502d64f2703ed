-- L2, the samples of a PGM file: "each sample as two bytes, high byte first"; the test of them, and the way back.
use Rattle.std.specs.Prelude.{◌∷◌, ◌+◌, ◌*◌, ◌/◌, ◌%◌}
use Rattle.algebra.specs.Prelude.{Bool, List, [], ℕ, ltb, length, get_or}
use Rattle.refusals.specs.Numbers as no
use Rattle.refusals.specs.Tests.{refuse}
use Rattle.refusals.specs.Some.{some}

-- "each sample as two bytes, high byte first"
unfoldable pub bytes_of : (samples : List ℕ) → List ℕ
bytes_of [] = []
bytes_of (sample ∷ samples) = sample / 256 ∷ sample % 256 ∷ bytes_of samples

-- refusal 11: "sample > 4095"
unfoldable pub some_above : (samples : List ℕ) → Bool
some_above samples = some (length samples) (λ k. ltb 4095 (get_or samples k 0))

unfoldable pub above_refusal : (samples : List ℕ) → ℕ
above_refusal samples = refuse no.sample_value (some_above samples)

-- two bytes to a sample, the high one first
unfoldable pub samples_of : List ℕ → List ℕ
samples_of [] = []
samples_of (byte ∷ []) = []
samples_of (high ∷ low ∷ bytes) = (high * 256 + low) ∷ samples_of bytes
