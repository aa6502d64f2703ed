-- The size of a file and the reading of it agree.
use Rattle.std.specs.Prelude.{◌≡◌}
use Rattle.file_pgm.specs.Prelude.{refl, sym, ap, ◌∙◌, List, ℕ, zero, suc, length, ◌before◌, first, after}
use Rattle.refusals.specs.TestLaws.{here, passed}
use Rattle.file_pgm.specs.declared.PgmRead.{PgmRead}
use Rattle.file_pgm.specs.Reading.{width_in, height_in, refusal_as, read_refusal, pgm_answer, ReadsPgm}
use Rattle.file_pgm.specs.Size.{form_refusal, pgm_size}

-- the number is in the answer
answer-number : (number width height : ℕ) → (pgm_answer number width height).refusal ≡ number
unfolding pgm_answer after
answer-number zero width height = refl
answer-number (suc number) width height = refl

-- reading tests the form first
form-first : (bytes : List ℕ) (room : ℕ) → read_refusal bytes room ≡ 0 → form_refusal bytes ≡ 0
unfolding read_refusal refusal_as form_refusal
form-first bytes room z = passed z here

form-refuses : (bytes : List ℕ) (room : ℕ) → (form_refusal bytes ≡ 0 → ⊥) → read_refusal bytes room ≡ form_refusal bytes
unfolding read_refusal refusal_as form_refusal first
form-refuses bytes room h = from (form_refusal bytes) _ h
  where
    from : (number rest : ℕ) → (number ≡ 0 → ⊥) → number before rest ≡ number
    from zero rest h = absurd (h refl)
    from (suc number) rest h = refl

module _ {bytes frame frame' : List ℕ} {r : PgmRead} (reads : ReadsPgm bytes frame frame' r) where
  number_is : r.refusal ≡ read_refusal bytes (length frame)
  number_is = ap (λ (a : PgmRead). a.refusal) reads.answer ∙ answer-number (read_refusal bytes (length frame)) (width_in bytes) (height_in bytes)

  -- a file that is read has its size
  pub read-size : r.refusal ≡ 0 → pgm_size bytes ≡ r
  unfolding pgm_size
  read-size z =
      let read : read_refusal bytes (length frame) ≡ 0 = sym number_is ∙ z in
      ap (λ n. pgm_answer n (width_in bytes) (height_in bytes)) (form-first bytes (length frame) read ∙ sym read) ∙ sym reads.answer

  -- a file that has none is not read, for the same reason
  pub size-refused : ((pgm_size bytes).refusal ≡ 0 → ⊥) → r ≡ pgm_size bytes
  unfolding pgm_size
  size-refused h =
      let stands : form_refusal bytes ≡ 0 → ⊥ = λ z. h (answer-number (form_refusal bytes) (width_in bytes) (height_in bytes) ∙ z) in
      reads.answer ∙ ap (λ n. pgm_answer n (width_in bytes) (height_in bytes)) (form-refuses bytes (length frame) stands)
