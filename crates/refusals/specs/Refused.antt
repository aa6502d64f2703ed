-- A refusal's number, and what a test answers by number.
use Rattle.std.specs.Prelude.{Result, Ok, Err}
use Rattle.algebra.specs.Prelude.{ℕ}
use Rattle.refusals.specs.Numbers as no
use Rattle.refusals.specs.declared.Refusal.{Refusal}
use Rattle.refusals.specs.declared.Refusal.TheVariants.{Size, Count, Reference, SampleLength, VectorLength, OutputLength, WorkLength, Noise, NoiseLimit, Strength, SampleValue, VectorPart, FirstLine, ValueLine, FileEnd, ByteLength, PgmForm, BlackLevel, DngStructure, DngTag, DngValue, Side, RowLength, SpatialStrength, FilteredSide, NoiseRange, Part}

-- the number that document 01's table or a request gives to a refusal
abbrev pub refusal_number : Refusal → ℕ
refusal_number Size = no.size
refusal_number Count = no.count
refusal_number Reference = no.reference
refusal_number SampleLength = no.wrong_sample_length
refusal_number VectorLength = no.wrong_vector_length
refusal_number OutputLength = no.wrong_output_length
refusal_number WorkLength = no.wrong_work_length
refusal_number Noise = no.noise
refusal_number NoiseLimit = no.noise_limit
refusal_number Strength = no.strength
refusal_number SampleValue = no.sample_value
refusal_number VectorPart = no.vector_part
refusal_number FirstLine = no.first_line
refusal_number ValueLine = no.wrong_value_line
refusal_number FileEnd = no.file_end
refusal_number ByteLength = no.byte_length
refusal_number PgmForm = no.pgm_form
refusal_number BlackLevel = no.black_level
refusal_number DngStructure = no.dng_structure
refusal_number DngTag = no.dng_tag
refusal_number DngValue = no.dng_value
refusal_number Side = no.side
refusal_number RowLength = no.row_length
refusal_number SpatialStrength = no.spatial_strength
refusal_number FilteredSide = no.filtered_side
refusal_number NoiseRange = no.noise_range
refusal_number Part = no.absent_part

-- "Acceptance is number 0"
abbrev pub answer_of : {A : Type 0} → Result A Refusal → ℕ
answer_of (Ok value) = 0
answer_of (Err refusal) = refusal_number refusal
