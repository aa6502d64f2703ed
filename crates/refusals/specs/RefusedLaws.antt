-- A refusal's number is not 0, and no two refusals have the same one: a test's number says what it answered.
use Rattle.std.specs.Prelude.{Result, Ok, Err, ◌≡◌, ◌<◌, ◌++◌}
use Rattle.algebra.specs.Prelude.{refl, sym, ap, ◌∙◌, cond, List, ℕ, zero, suc, arith, eqb, false}
use Rattle.std.proofs.Common.{ne_eqb}
use Rattle.refusals.specs.Refused.{refusal_number, answer_of}
use Rattle.refusals.specs.Tests.{◌before◌, first}
use Rattle.refusals.specs.TestLaws.{stops, goes}
use Rattle.refusals.specs.declared.Refusal.{Refusal}
use Rattle.refusals.specs.declared.Refusal.TheVariants.{Size, Count, Reference, SampleLength, VectorLength, OutputLength, WorkLength, Noise, NoiseLimit, Strength, SampleValue, VectorPart, FirstLine, ValueLine, FileEnd, ByteLength, PgmForm, BlackLevel, DngStructure, DngTag, DngValue, Side, RowLength, SpatialStrength, FilteredSide, NoiseRange, Part}

-- a refusal before other tests is their answer
pub refuses : (refusal : Refusal) (b : ℕ) → refusal_number refusal before b ≡ refusal_number refusal
refuses Size b = refl
refuses Count b = refl
refuses Reference b = refl
refuses SampleLength b = refl
refuses VectorLength b = refl
refuses OutputLength b = refl
refuses WorkLength b = refl
refuses Noise b = refl
refuses NoiseLimit b = refl
refuses Strength b = refl
refuses SampleValue b = refl
refuses VectorPart b = refl
refuses FirstLine b = refl
refuses ValueLine b = refl
refuses FileEnd b = refl
refuses ByteLength b = refl
refuses PgmForm b = refl
refuses BlackLevel b = refl
refuses DngStructure b = refl
refuses DngTag b = refl
refuses DngValue b = refl
refuses Side b = refl
refuses RowLength b = refl
refuses SpatialStrength b = refl
refuses FilteredSide b = refl
refuses NoiseRange b = refl
refuses Part b = refl

pub some-number : (refusal : Refusal) → 0 < refusal_number refusal
some-number refusal = above (refusal_number refusal) (refuses refusal 1)
  where
    above : (n : ℕ) → n before 1 ≡ n → 0 < n
    above zero e = absurd (omega arith)
    above (suc n) e = omega arith

-- the first of two lists of tests refuses
pub stopped : (refusal : Refusal) (tests others : List ℕ) → refusal_number refusal ≡ first tests → refusal_number refusal ≡ first (tests ++ others)
stopped refusal tests others e = let some = some-number refusal in stops tests others e (λ z. absurd (omega (arith, z, some)))

-- it passes, and the second decides
pub continued : {n : ℕ} (tests others : List ℕ) → 0 ≡ first tests → n ≡ first others → n ≡ first (tests ++ others)
continued tests others z e = goes tests others z refl e

-- it does not count as acceptance
pub not_accepted : (refusal : Refusal) → eqb (refusal_number refusal) 0 ≡ false
not_accepted refusal = ne_eqb (refusal_number refusal) 0 (λ z. let some = some-number refusal in absurd (omega (arith, z, some)))

-- no two refusals have the same number
abbrev refusal_at : ℕ → Refusal
refusal_at n =
    cond (eqb n 1) Size
    (cond (eqb n 2) Count
    (cond (eqb n 3) Reference
    (cond (eqb n 4) SampleLength
    (cond (eqb n 5) VectorLength
    (cond (eqb n 6) OutputLength
    (cond (eqb n 7) WorkLength
    (cond (eqb n 8) Noise
    (cond (eqb n 9) NoiseLimit
    (cond (eqb n 10) Strength
    (cond (eqb n 11) SampleValue
    (cond (eqb n 12) VectorPart
    (cond (eqb n 13) FirstLine
    (cond (eqb n 14) ValueLine
    (cond (eqb n 15) FileEnd
    (cond (eqb n 16) ByteLength
    (cond (eqb n 17) PgmForm
    (cond (eqb n 18) BlackLevel
    (cond (eqb n 19) DngStructure
    (cond (eqb n 20) DngTag
    (cond (eqb n 21) DngValue
    (cond (eqb n 22) Side
    (cond (eqb n 23) RowLength
    (cond (eqb n 24) SpatialStrength
    (cond (eqb n 25) FilteredSide
    (cond (eqb n 26) NoiseRange
    Part)))))))))))))))))))))))))

at-number : (refusal : Refusal) → refusal_at (refusal_number refusal) ≡ refusal
at-number Size = refl
at-number Count = refl
at-number Reference = refl
at-number SampleLength = refl
at-number VectorLength = refl
at-number OutputLength = refl
at-number WorkLength = refl
at-number Noise = refl
at-number NoiseLimit = refl
at-number Strength = refl
at-number SampleValue = refl
at-number VectorPart = refl
at-number FirstLine = refl
at-number ValueLine = refl
at-number FileEnd = refl
at-number ByteLength = refl
at-number PgmForm = refl
at-number BlackLevel = refl
at-number DngStructure = refl
at-number DngTag = refl
at-number DngValue = refl
at-number Side = refl
at-number RowLength = refl
at-number SpatialStrength = refl
at-number FilteredSide = refl
at-number NoiseRange = refl
at-number Part = refl

pub same_refusal : (a b : Refusal) → refusal_number a ≡ refusal_number b → a ≡ b
same_refusal a b e = sym (at-number a) ∙ ap refusal_at e ∙ at-number b

pub same_error : (r : Result (Unit {0}) Refusal) (b : Refusal) → answer_of r ≡ refusal_number b → r ≡ Err b
same_error (Ok value) b e = let some = some-number b in absurd (omega (arith, e, some))
same_error (Err a) b e = ap (λ r. Err r) (same_refusal a b e)
