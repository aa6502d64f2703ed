-- The samples of a DNG file's strip: the test of them, and where a frame of the lent burst takes them.
use Rattle.std.specs.Prelude.{◌+◌, ◌*◌}
use Rattle.algebra.specs.Prelude.{List, ℕ, zero, suc, ltb}
use Rattle.refusals.specs.Numbers as no
use Rattle.refusals.specs.Tests.{refuse}
use Rattle.refusals.specs.Some.{some}
use Rattle.sequences.specs.Written.{written}
use Rattle.geometry.specs.declared.Shape.{Shape}
use Rattle.geometry.specs.Read.{sample_index}
use Rattle.file_dng.specs.Tiff.Bytes.{short}

-- the sample at a place of the strip, row by row
unfoldable pub strip_sample : List ℕ → (start place : ℕ) → ℕ
strip_sample file start place = short file (start + 2 * place)

-- "and 11": of the strip's samples
unfoldable pub strip_refusal : List ℕ → (start count : ℕ) → ℕ
strip_refusal file start count = refuse no.sample_value (some count (λ place. ltb 4095 (strip_sample file start place)))

-- "The reader fills one frame of the lent burst and touches no other": the strip's first rows, each at the place where that row of the frame begins
unfoldable pub filled_rows : List ℕ → (start : ℕ) → Shape → (frame rows : ℕ) → List ℕ → List ℕ
filled_rows file start s frame zero samples = samples
filled_rows file start s frame (suc row) samples =
    written (filled_rows file start s frame row samples) (sample_index s frame row 0) (λ column. strip_sample file start (row * s.width + column)) s.width
