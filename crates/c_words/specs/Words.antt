-- What a refusal's number says in words, and the version of the calls.
use Rattle.std.specs.Prelude.{◌≡◌, ◌∷◌}
use Rattle.algebra.specs.Prelude.{cond, List, [], ℕ, leb, length, get_or}
use Rattle.sequences.specs.Tab.{tab}
use Rattle.printing.specs.Ascii.{ascii}

-- of a number that no call answers
abbrev pub unknown : List ℕ
unknown = ascii "no refusal of this version"

-- by the numbers, from 0 on
unfoldable pub word_table : List (List ℕ)
word_table =
    ascii "accepted"
    ∷ ascii "width or height not a multiple of 64 from 64 to 4096"
    ∷ ascii "count of frames 0 or above 8"
    ∷ ascii "reference, or index of the frame to be read, not below the count of frames"
    ∷ ascii "samples not of length count * row_length * height"
    ∷ ascii "vectors not of length (count - 1) * 2 * (width / side + 1) * (height / side + 1), or for one frame without (count - 1)"
    ∷ ascii "output or frame not of length width * height, band not of rows * width, or residuals not half as many as the vectors' parts"
    ∷ ascii "work area not of length 2 * width * height, or for a band 4 * side * width"
    ∷ ascii "shot or read negative or not finite, or ISO outside 25..409600"
    ∷ ascii "shot above 64 or read above 4096 after ISO, or a file's levels above 65536 or 4194304"
    ∷ ascii "strength above 1024"
    ∷ ascii "a sample above 4095"
    ∷ ascii "a part of a vector outside -172..172"
    ∷ ascii "a file whose first line differs"
    ∷ ascii "a file with a malformed line of values"
    ∷ ascii "a file that is short, or goes on after its last row"
    ∷ ascii "bytes not of the length that stacker_pgm_length answers"
    ∷ ascii "not a PGM file as stacker_write_pgm writes it"
    ∷ ascii "a black level above 255"
    ∷ ascii "not a little-endian TIFF file, or a part of it lies past its end"
    ∷ ascii "a DNG file in which a needed tag is absent or a listed one stands twice"
    ∷ ascii "a DNG file with a type, count or value that is not read, or of another size than the burst"
    ∷ ascii "side of the tiles neither 16 nor 32, or not 16 where a range of noise is asked for"
    ∷ ascii "row length not from width to width + 256"
    ∷ ascii "spatial strength above 256, or not 0 where a range of noise is asked for"
    ∷ ascii "spatial strength not 0 with tiles of side 32"
    ∷ ascii "lower shot or read above the upper one after ISO"
    ∷ ascii "a band of rows off the grid of tiles or outside the frame, or a frame that is none of the others"
    ∷ []

unfoldable pub words_of : (number : ℕ) → List ℕ
words_of number = get_or word_table number unknown

-- a text with zeros behind it, in a buffer of `room` bytes
unfoldable pub padded : (room : ℕ) → List ℕ → List ℕ
padded room text = tab room (λ k. get_or text k 0)

-- what is left in a lent buffer, which stays as it was where the text is longer; and the answer, the length of the text
pub record TextPut (text buffer buffer' : List ℕ) (answer : ℕ) : Type 0 where
  pub answered : answer ≡ length text
  pub stored : buffer' ≡ cond (leb (length text) (length buffer)) (padded (length buffer) text) buffer

-- 1.0.0, three digits to each of minor and patch
abbrev pub version_number : ℕ
version_number = 1000000
