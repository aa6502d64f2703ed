-- Document 01, "Both programs [..] take files up to 65536 bytes with W = H = 64": what a program prints for a file, by what it prints for the burst in it.
use Rattle.std.specs.Prelude.{◌&&◌}
use Rattle.report.specs.Prelude.{Bool, cond, List, ℕ, eqb, ltb, length, FileBurst, too_large, refusal}
use Rattle.geometry.specs.declared.Shape.{Shape}
use Rattle.file_burst.specs.Lines.Part.{Part, refused, found}
use Rattle.file_burst.specs.Reading.{reading}

-- "files up to 65536 bytes"
abbrev pub file_most : ℕ
file_most = 65536

-- "with W = H = 64"
abbrev pub program_side : ℕ
program_side = 64

unfoldable pub taken : Shape → Bool
taken shape = eqb shape.width program_side && eqb shape.height program_side

-- the file check
abbrev pub checked : List ℕ → Part FileBurst
checked file = reading (λ shape. 0) file

module _ (printed : FileBurst → List ℕ) where
  -- "A refusal prints `refused`, a space, its number, LF"; "an accepted one of another size, prints only `too large`, LF"
  unfoldable pub answer_text : Part FileBurst → List ℕ
  answer_text (refused number) = refusal number
  answer_text (found burst rest) = cond (taken burst.header.shape) (printed burst) too_large

  -- "a longer file [..] prints only `too large`, LF"
  unfoldable pub program_text : List ℕ → List ℕ
  program_text file = cond (ltb file_most (length file)) too_large (answer_text (checked file))
