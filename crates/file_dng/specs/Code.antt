-- The code's answers, as the definitions have them.
use Rattle.std.specs.Prelude.{Result, Ok, Err, ◌≡◌, ◌∷◌, ◌+◌, ◌*◌}
use Rattle.file_dng.specs.Prelude.{cond, List, [], ℕ, length, pos, Float, binary64, of_bits, of_int, after, Shape, Entry, entries, first_field, NoiseProfile, BlackLevel, tag_at, has_black, strip_start, filled_rows}
use Rattle.file_dng.specs.Tiff.Bytes.{short, eight}
use Rattle.refusals.specs.declared.Refusal.{Refusal}
use Rattle.refusals.specs.Refused.{refusal_number}
use Rattle.file_dng.specs.declared.DngRead.{DngRead}
use Rattle.file_dng.specs.declared.reading.Values.{Values}
use Rattle.file_dng.specs.Curve.{shot_of, read_of}
use Rattle.file_dng.specs.Refusals.{dng_refusal}
use Rattle.file_dng.specs.Reading.{noise_s, noise_o, refused_dng, black_at}

-- what the code finds beside the samples
abbrev pub values_in : List ℕ → List Entry → Values
values_in file es =
    record {
      shot = shot_of (noise_s file es);
      read = read_of (noise_o file es);
      black = black_at file es 0 ∷ black_at file es 1 ∷ black_at file es 2 ∷ black_at file es 3 ∷ [];
    }

-- and its answer, as C has it
abbrev pub answered : Result Values Refusal → DngRead
answered (Ok values) = record { refusal = 0; shot = values.shot; read = values.read; black = values.black }
answered (Err refusal) = refused_dng (refusal_number refusal)
