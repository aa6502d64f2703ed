-- Document 01, "`stack` the merged frame (names `width height`, their values, rows)".
use Rattle.std.specs.Prelude.{◌∷◌, ◌++◌}
use Rattle.report.specs.Prelude.{List, [], ℕ, aligned_vectors, Header, FileBurst, stack_names, number_line, sample_rows}
use Rattle.recipe.specs.declared.Merge.{Merge}
use Rattle.recipe.specs.Scene.{scene_of}
use Rattle.recipe.specs.Merged.{merged}
use Rattle.report.specs.Program.{program_text}

-- "a burst file means zeros" (request L3)
abbrev pub no_black : List ℕ
no_black = 0 ∷ 0 ∷ 0 ∷ 0 ∷ []

-- a merge of the file's values: "shot and read are Ls and Lr", and "A burst file means s = 0" (request L13)
abbrev pub file_merge : Header → Merge
file_merge header =
    record {
      shape = header.shape;
      reference = header.reference;
      shot = header.shot;
      read = header.read;
      tuning = record { strength = header.strength; black = no_black; spatial = 0 };
    }

-- the frame's names, their values and its rows
unfoldable pub frame_text : (width height : ℕ) (samples : List ℕ) → List ℕ
frame_text width height samples = stack_names ++ number_line (width ∷ height ∷ []) ++ sample_rows width height samples

-- "align, then merge": the frame of a burst, from the file's levels
unfoldable pub frame_of : FileBurst → List ℕ
frame_of burst =
    merged (scene_of (file_merge burst.header) burst.samples (aligned_vectors burst.header.shape burst.header.reference burst.samples))

-- what `stack` prints for a burst
unfoldable pub stack_of : FileBurst → List ℕ
stack_of burst = frame_text burst.header.shape.width burst.header.shape.height (frame_of burst)

-- what it prints for a file
abbrev pub stack_text : List ℕ → List ℕ
stack_text file = program_text stack_of file
