-- Reading one frame of a burst from a DNG file.
use Rattle.std.specs.Prelude.{Result, Ok, Err, ◌≡◌, ◌∷◌, ◌+◌, ◌*◌}
use Rattle.file_dng.specs.Prelude.{cond, List, [], ℕ, length, pos, Float, binary64, of_bits, of_int, after, Shape, Entry, entries, first_field, NoiseProfile, BlackLevel, tag_at, has_black, strip_start, filled_rows}
use Rattle.file_dng.specs.Tiff.Bytes.{short, eight}
use Rattle.refusals.specs.declared.Refusal.{Refusal}
use Rattle.refusals.specs.Refused.{refusal_number}
use Rattle.file_dng.specs.declared.DngRead.{DngRead}
use Rattle.file_dng.specs.declared.reading.Values.{Values}
use Rattle.file_dng.specs.Curve.{shot_of, read_of}
use Rattle.file_dng.specs.Refusals.{dng_refusal}

-- "NoiseProfile (tag 51041) with one pair S, O": two DOUBLEs
abbrev pub noise_s : List ℕ → List Entry → Float
noise_s file es = of_bits binary64 (eight file (first_field file (tag_at NoiseProfile) es).at)

abbrev pub noise_o : List ℕ → List Entry → Float
noise_o file es = of_bits binary64 (eight file ((first_field file (tag_at NoiseProfile) es).at + 8))

-- "BlackLevel, when present, is four SHORT values in the pattern's order ..; absent means zeros"
unfoldable pub black_at : List ℕ → List Entry → (index : ℕ) → ℕ
black_at file es index = cond (has_black es) (short file ((first_field file (tag_at BlackLevel) es).at + 2 * index)) 0

abbrev pub no_number : Float
no_number = of_int binary64 (pos 0)

abbrev pub refused_dng : ℕ → DngRead
refused_dng number = record { refusal = number; shot = no_number; read = no_number; black = 0 ∷ 0 ∷ 0 ∷ 0 ∷ [] }

-- "Curve and black levels are handed back untested."
abbrev pub accepted_dng : List ℕ → List Entry → DngRead
accepted_dng file es =
    record {
      refusal = 0;
      shot = shot_of (noise_s file es);
      read = read_of (noise_o file es);
      black = black_at file es 0 ∷ black_at file es 1 ∷ black_at file es 2 ∷ black_at file es 3 ∷ [];
    }

-- "Acceptance is number 0; beside a refusal every other returned field is 0."
unfoldable pub dng_answer : (number : ℕ) → List ℕ → List Entry → DngRead
dng_answer number file es = after number (refused_dng number) (accepted_dng file es)

-- all rows of the frame
abbrev pub filled : List ℕ → List Entry → Shape → (frame : ℕ) → List ℕ → List ℕ
filled file es s frame samples = filled_rows file (strip_start file es) s frame s.height samples

-- what reading leaves, by the entries of the directory: its answer, and every word of the samples
pub record FrameReadBy (es : List Entry) (file : List ℕ) (s : Shape) (frame : ℕ) (samples : List ℕ) (answer : DngRead) (samples' : List ℕ) : Type 0 where
  pub answered : answer ≡ dng_answer (dng_refusal file es s frame (length samples)) file es
  pub stored : samples' ≡ after (dng_refusal file es s frame (length samples)) samples (filled file es s frame samples)

-- by those of "first image directory"
abbrev pub FrameRead : (file : List ℕ) (s : Shape) (frame : ℕ) (samples : List ℕ) (answer : DngRead) (samples' : List ℕ) → Type 0
FrameRead file s frame samples answer samples' = FrameReadBy (entries file) file s frame samples answer samples'
