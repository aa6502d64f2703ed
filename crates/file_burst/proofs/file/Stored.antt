-- What reading owes where it refuses, and where it accepts.
use Rattle.std.specs.Prelude.{◌≡◌}
use Rattle.file_burst.specs.Prelude.{sym, ap, ◌∙◌, List, ℕ, length, Part, refused, found}
use Rattle.file_burst.specs.Burst.{FileBurst}
use Rattle.file_burst.specs.Reading.{reading_into, refused_file, accepted_file, file_answer, samples_after, FileRead}

module _ (file samples : List ℕ) where
  -- a refusal, and the samples as they were
  pub refusal : {number : ℕ} → reading_into (length samples) file ≡ refused number → FileRead file samples (refused_file number) samples
  refusal e = record { answered = sym (ap file_answer e); stored = sym (ap (λ (p : Part FileBurst). samples_after p samples) e) }

  -- acceptance, and the file's samples
  pub acceptance : {burst : FileBurst} {rest after : List ℕ} → reading_into (length samples) file ≡ found burst rest → after ≡ burst.samples → FileRead file samples (accepted_file burst.header) after
  acceptance e s = record { answered = sym (ap file_answer e); stored = s ∙ sym (ap (λ (p : Part FileBurst). samples_after p samples) e) }
