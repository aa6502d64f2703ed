-- The grammar of a burst file: which bytes are a file with which values, whatever the order of reading. No contract needs it: `sound` and `complete`
-- (Acceptance) say of what the contracts read that it is this.
use Rattle.std.specs.Prelude.{◌≡◌, ◌++◌, ◌*◌}
use Rattle.file_burst.specs.Prelude.{List, [], ℕ, suc}
use Rattle.file_burst.specs.Lines.Grammar.{ValueLine}
use Rattle.file_burst.specs.Head.Names.{names}
use Rattle.file_burst.specs.Head.Grammar.{seven_of}
use Rattle.file_burst.specs.Burst.{FileBurst}

-- "one line per row": `count` rows of `width` values, and what follows them
pub data Rows : (count width : ℕ) (bytes values rest : List ℕ) → Type 0 where
  no_row : {width : ℕ} {bytes : List ℕ} → Rows 0 width bytes [] bytes
  row_then : {count width : ℕ} {bytes values between others rest : List ℕ} → ValueLine width bytes values between → Rows count width between others rest → Rows (suc count) width bytes (values ++ others) rest

-- "A line of names, .., then a line of those seven values .., then one line per row, frame after frame", and no byte more; "A burst file means L = W" (request L9);
-- "Burst files mean side 16" (request L8)
pub record BurstFile (file : List ℕ) (burst : FileBurst) : Type 0 where
  pub after_names : List ℕ
  pub after_values : List ℕ
  pub named : file ≡ names ++ after_names
  pub valued : ValueLine 7 after_names (seven_of burst.header) after_values
  pub sixteen : burst.header.shape.side ≡ 16
  pub packed : burst.header.shape.pitch ≡ burst.header.shape.width
  pub sampled : Rows (burst.header.shape.count * burst.header.shape.height) burst.header.shape.width after_values burst.samples []
