-- What reading finds from some byte of the file on: the number of a refusal, or what was read and the bytes that follow it.
use Rattle.file_burst.specs.Lines.Prelude.{List, ℕ, zero, suc}

pub data Part (A : Type 0) : Type 0 where
  refused : (number : ℕ) → Part A
  found : A → (rest : List ℕ) → Part A

module _ {A : Type 0} where
  -- a test ahead of what is read: its number where that is not 0
  abbrev pub unless : ℕ → Part A → Part A
  unless zero part = part
  unless (suc number) part = refused (suc number)

  -- "Acceptance is number 0"
  abbrev pub number_of : Part A → ℕ
  number_of (refused number) = number
  number_of (found a rest) = 0

-- what follows is read after a part that was found
infixl 4 ◌then◌
abbrev pub ◌then◌ : {A B : Type 0} → Part A → (A → List ℕ → Part B) → Part B
refused number then next = refused number
found a rest then next = next a rest

-- the same part, of what it found another value
abbrev pub mapped : {A B : Type 0} → (A → B) → Part A → Part B
mapped f part = part then (λ a rest. found (f a) rest)
