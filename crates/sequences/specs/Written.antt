-- A list with a part of it written over.
use Rattle.algebra.specs.Prelude.{List, ℕ}
use Rattle.std.proofs.Math.Seq.{paste}
use Rattle.sequences.specs.Tab.{tab}

-- d with f 0 .. f (n - 1) at the places from at on
unfoldable pub written : {A : Type 0} → List A → ℕ → (ℕ → A) → ℕ → List A
written d at f n = paste d at (tab n f) n
