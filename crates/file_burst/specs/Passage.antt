-- Inner vocabulary, which no public contract reaches: the answers of the functions that check rows, which hold positions, as what stands at those
-- positions.
use Rattle.file_burst.specs.Prelude.{List, ℕ, drop, Part, refused, found, mapped}
use Rattle.std.specs.Prelude.{Result, Ok, Err}
use Rattle.refusals.specs.declared.Refusal.{Refusal}
use Rattle.refusals.specs.Refused.{refusal_number}

-- of rows, nothing but where they end
abbrev pub rows_in : List ℕ → Result ℕ Refusal → Part Unit
rows_in file (Ok next) = found tt (drop next file)
rows_in file (Err refusal) = refused (refusal_number refusal)

abbrev pub briefly : {A : Type 0} → Part A → Part Unit
briefly part = mapped (λ a. tt) part
