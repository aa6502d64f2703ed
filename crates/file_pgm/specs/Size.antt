-- The size of a PGM file's frame: what reading tests before the frame's length and the samples.
use Rattle.file_pgm.specs.Prelude.{not, List, ℕ, refuse}
use Rattle.refusals.specs.Numbers as no
use Rattle.file_pgm.specs.declared.PgmRead.{PgmRead}
use Rattle.file_pgm.specs.Reading.{width_in, height_in, formed, pgm_answer}

-- 17: "any other departure when reading, a size not allowed included"
unfoldable pub form_refusal : List ℕ → ℕ
form_refusal bytes = refuse no.pgm_form (not (formed (width_in bytes) (height_in bytes) bytes))

-- "with width and height handed back"
unfoldable pub pgm_size : List ℕ → PgmRead
pgm_size bytes = pgm_answer (form_refusal bytes) (width_in bytes) (height_in bytes)
