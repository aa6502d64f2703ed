-- A burst that the programs take has the shape and the lengths that the cores of the calls ask for.
use Rattle.std.specs.Prelude.{◌≡◌, ◌-◌}
use Rattle.report.specs.Prelude.{◌∙◌, List, ℕ, arith, length, BurstFits, AlignFits, MergeFits, Header}
use mathlib.Core.Logic.{inl}
use Rattle.geometry.specs.Shape.{sample_length, vector_length, output_length, work_length}
use Rattle.report.specs.Inner.{room, vector_room, work_room, Taken}

module _ {header : Header} {samples : List ℕ} (t : Taken header samples) where
  sample-length : length samples ≡ sample_length header.shape
  unfolding sample_length
  sample-length = rw (t.packed, t.wide, t.high) t.long

  vector-length : vector_room (header.shape.count - 1) ≡ vector_length header.shape
  unfolding vector_length
  vector-length = rw (t.sixteen, t.wide, t.high) (omega arith)

  work-length : work_room ≡ work_length header.shape
  unfolding work_length
  work-length = rw (t.wide, t.high)

  output-length : room 1 ≡ output_length header.shape
  unfolding output_length
  output-length = rw (t.wide, t.high)

  module _ {vectors : ℕ} (v : vectors ≡ vector_room (header.shape.count - 1)) where
    burst-fits : BurstFits header.shape header.reference (length samples) vectors
    burst-fits = record { allowed = t.allowed; sided = record { is = inl t.sixteen }; reference_below = t.reference_below; samples_long = sample-length; vectors_long = v ∙ vector-length }

    module _ {work : ℕ} (k : work ≡ work_room) where
      pub align_fits : AlignFits header.shape header.reference (length samples) vectors work
      align_fits = record { burst = burst-fits; work_long = k ∙ work-length }

      pub merge-fits : {output : ℕ} → output ≡ room 1 → MergeFits header.shape header.reference (length samples) vectors output work
      merge-fits o = record { burst = burst-fits; output_long = o ∙ output-length; work_long = k ∙ work-length }
