-- What C is answered, by the number of the tests.
use Rattle.std.specs.Prelude.{◌≡◌}
use Rattle.file_pgm.specs.Prelude.{refl, Bool, not, List, refuse, ap, ◌∙◌, ℕ, arith}
use Rattle.refusals.specs.AfterLaws.{kept, made}
use Rattle.refusals.specs.Refused.{refusal_number}
use Rattle.refusals.specs.RefusedLaws.{some-number}
use Rattle.refusals.specs.declared.Refusal.{Refusal}
use Rattle.refusals.specs.Numbers as no
use Rattle.file_pgm.specs.declared.reading.Size.{Size}
use Rattle.file_pgm.specs.Reading.{formed, refusal_as, read_refusal, refused_pgm, accepted_pgm, pgm_answer}
use Rattle.file_pgm.specs.Code.{size_in}
use Rattle.file_pgm.specs.Size.{form_refusal}

pub not-zero : (refusal : Refusal) → refusal_number refusal ≡ 0 → ⊥
not-zero refusal z = let some = some-number refusal in absurd (omega (arith, z, some))

pub answer-refused : (refusal : Refusal) (number width height : ℕ) → refusal_number refusal ≡ number → refused_pgm (refusal_number refusal) ≡ pgm_answer number width height
unfolding pgm_answer
answer-refused refusal number width height e = ap refused_pgm e ∙ kept number _ _ e (not-zero refusal)

pub answer-accepted : (number width height : ℕ) → 0 ≡ number → accepted_pgm width height ≡ pgm_answer number width height
unfolding pgm_answer
answer-accepted number width height e = made number _ _ e refl refl

-- the tests of the size that the digits write
module _ (bytes : List ℕ) (size : Size) (e : size ≡ size_in bytes) where
  pub form-tested : {b : Bool} → b ≡ formed size.width size.height bytes → refuse no.pgm_form (not b) ≡ form_refusal bytes
  unfolding form_refusal
  form-tested f = ap (λ b. refuse no.pgm_form (not b)) (f ∙ ap (λ (s : Size). formed s.width s.height bytes) e)

  pub read-tested : (room : ℕ) → refusal_as size.width size.height bytes room ≡ read_refusal bytes room
  unfolding read_refusal
  read-tested room = ap (λ (s : Size). refusal_as s.width s.height bytes room) e
