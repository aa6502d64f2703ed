-- Document 01, "The program `motion` prints one line per other frame".
use Rattle.std.specs.Prelude.{◌∷◌, ◌++◌, ◌-◌}
use Rattle.report.specs.Prelude.{List, [], ℕ, zero, suc, get_or, ℤ, aligned_vectors, residual_sums, FileBurst, motion_names, number_line}
use Rattle.geometry.specs.Tiles.{frame_parts}
use Rattle.geometry.specs.Vectors.{other_frame, parts_of}
use Rattle.report_tally.specs.Tallies.{tiles, still_tiles, farthest}
use Rattle.report.specs.Program.{program_text}

-- "frame index; its tiles; tiles with vector 0,0; greatest absolute part; sum of finest residuals"
unfoldable pub frame_line : (frame : ℕ) (parts : List ℤ) (residual : ℕ) → List ℕ
frame_line frame parts residual = number_line (frame ∷ tiles parts ∷ still_tiles parts ∷ farthest parts ∷ residual ∷ [])

-- "one line per other frame": those of the first n, each with `count` parts
unfoldable pub frame_lines : (reference count : ℕ) (vectors : List ℤ) (sums : List ℕ) (n : ℕ) → List ℕ
frame_lines reference count vectors sums zero = []
frame_lines reference count vectors sums (suc n) =
    frame_lines reference count vectors sums n ++ frame_line (other_frame reference n) (parts_of count vectors n) (get_or sums n 0)

-- what `motion` prints for a burst: the names, and the lines of its alignment
unfoldable pub motion_of : FileBurst → List ℕ
motion_of burst =
    let shape = burst.header.shape in
    let reference = burst.header.reference in
    motion_names
    ++ frame_lines reference (frame_parts shape) (aligned_vectors shape reference burst.samples) (residual_sums shape reference burst.samples) (shape.count - 1)

-- what it prints for a file
abbrev pub motion_text : List ℕ → List ℕ
motion_text file = program_text motion_of file
