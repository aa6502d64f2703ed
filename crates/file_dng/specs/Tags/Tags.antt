-- "Needed: tags 256 to 259, 262, 273, 277, 279, 33421, 33422, 50717, 51041, and, where 50714 stands, that and 50713": the table of listed tags with
-- their types and counts, and the values that are asked of them.
use Rattle.std.specs.Prelude.{◌∷◌}
use Rattle.file_dng.specs.Tags.Prelude.{Bool, not, cond, List, [], ℕ, eqb, get_or, Entry, times_of}
use Rattle.file_dng.specs.declared.tiff.Wanted.{Wanted}
use Rattle.file_dng.specs.declared.tags.Demand.{Demand}

abbrev pub wanted : (tag kind other count : ℕ) → Wanted
wanted tag kind other count = record { tag = tag; kind = kind; other = other; count = count }

-- TIFF's numbers of the types
abbrev pub BYTE : ℕ
BYTE = 1

abbrev pub SHORT : ℕ
SHORT = 3

abbrev pub LONG : ℕ
LONG = 4

abbrev pub DOUBLE : ℕ
DOUBLE = 12

-- the rows of the table
abbrev pub ImageWidth : ℕ
ImageWidth = 0

abbrev pub ImageLength : ℕ
ImageLength = 1

abbrev pub BitsPerSample : ℕ
BitsPerSample = 2

abbrev pub Compression : ℕ
Compression = 3

abbrev pub PhotometricInterpretation : ℕ
PhotometricInterpretation = 4

abbrev pub StripOffsets : ℕ
StripOffsets = 5

abbrev pub SamplesPerPixel : ℕ
SamplesPerPixel = 6

abbrev pub StripByteCounts : ℕ
StripByteCounts = 7

abbrev pub CFARepeatPatternDim : ℕ
CFARepeatPatternDim = 8

abbrev pub CFAPattern : ℕ
CFAPattern = 9

abbrev pub WhiteLevel : ℕ
WhiteLevel = 10

abbrev pub NoiseProfile : ℕ
NoiseProfile = 11

abbrev pub BlackLevelRepeatDim : ℕ
BlackLevelRepeatDim = 12

abbrev pub BlackLevel : ℕ
BlackLevel = 13

-- "Where no type is given, any that TIFF 6.0, TIFF/EP or DNG allows for the tag will do."
unfoldable pub tags : List Wanted
tags =
    wanted 256 SHORT LONG 1
    ∷ wanted 257 SHORT LONG 1
    ∷ wanted 258 SHORT SHORT 1
    ∷ wanted 259 SHORT SHORT 1
    ∷ wanted 262 SHORT SHORT 1
    ∷ wanted 273 SHORT LONG 1
    ∷ wanted 277 SHORT SHORT 1
    ∷ wanted 279 SHORT LONG 1
    ∷ wanted 33421 SHORT SHORT 2
    ∷ wanted 33422 BYTE BYTE 4
    ∷ wanted 50717 SHORT LONG 1
    ∷ wanted 51041 DOUBLE DOUBLE 2
    ∷ wanted 50713 SHORT SHORT 2
    ∷ wanted 50714 SHORT SHORT 4
    ∷ []

unfoldable pub tag_at : (row : ℕ) → Wanted
tag_at row = get_or tags row (wanted 0 0 0 0)

abbrev pub asked : (row index value : ℕ) → Demand
asked row index value = record { row = row; index = index; value = value }

-- "16-bit, uncompressed (Compression 1), one sample per pixel, one strip, PhotometricInterpretation 32803, CFA pattern 2 by 2 RGGB, WhiteLevel 4095";
-- "BlackLevel, when present, .. with BlackLevelRepeatDim 2, 2". Red is 0, green 1 and blue 2; one strip is the count of the strip's tags
unfoldable pub demands : List Demand
demands =
    asked BitsPerSample 0 16
    ∷ asked Compression 0 1
    ∷ asked PhotometricInterpretation 0 32803
    ∷ asked SamplesPerPixel 0 1
    ∷ asked CFARepeatPatternDim 0 2
    ∷ asked CFARepeatPatternDim 1 2
    ∷ asked CFAPattern 0 0
    ∷ asked CFAPattern 1 1
    ∷ asked CFAPattern 2 1
    ∷ asked CFAPattern 3 2
    ∷ asked WhiteLevel 0 4095
    ∷ asked BlackLevelRepeatDim 0 2
    ∷ asked BlackLevelRepeatDim 1 2
    ∷ []

unfoldable pub demand_at : (row : ℕ) → Demand
demand_at row = get_or demands row (asked 0 0 0)

-- "where 50714 stands": an entry has that tag
unfoldable pub has_black : List Entry → Bool
has_black es = not (eqb (times_of 50714 es) 0)

-- the rows that are listed: without 50714 neither it nor 50713 is
unfoldable pub listed : List Entry → ℕ
listed es = cond (has_black es) 14 12

unfoldable pub demanded : List Entry → ℕ
demanded es = cond (has_black es) 13 11
