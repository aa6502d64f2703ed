-- The code's answers, as the definitions have them.
use Rattle.std.specs.Prelude.{Result, Ok, Err, ◌≡◌, ◌&&◌, ◌∷◌, ◌+◌, ◌*◌}
use Rattle.file_pgm.specs.Prelude.{Bool, not, List, [], ℕ, eqb, length, get_or, drop, refuse, first, after, length_refusal, decimal, pgm_header, leading, above_refusal, samples_of}
use Rattle.refusals.specs.Numbers as no
use Rattle.refusals.specs.Some.{some}
use Rattle.refusals.specs.declared.Refusal.{Refusal}
use Rattle.refusals.specs.Refused.{refusal_number}
use Rattle.file_pgm.specs.declared.PgmRead.{PgmRead}
use Rattle.file_pgm.specs.declared.reading.Size.{Size}
use Rattle.file_pgm.specs.Form.{PgmFile, file_length, sizes_allowed}
use Rattle.file_pgm.specs.Reading.{refused_pgm, accepted_pgm, width_in, height_in}

-- both, as the code has them
abbrev pub size_in : List ℕ → Size
size_in bytes = record { width = width_in bytes; height = height_in bytes }

-- the answer to C
abbrev pub answered : Result Size Refusal → PgmRead
answered (Ok size) = accepted_pgm size.width size.height
answered (Err refusal) = refused_pgm (refusal_number refusal)
