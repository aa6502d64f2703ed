-- Refused inputs: "Tested in the order of the numbers, each exactly on its condition. Acceptance is number 0".
use Rattle.std.specs.Prelude.{◌∷◌}
use Rattle.algebra.specs.Prelude.{Bool, cond, List, [], ℕ, zero, suc}

-- one test: its number where its condition holds, else 0
abbrev pub refuse : ℕ → Bool → ℕ
refuse number condition = cond condition number 0

-- two tests in their order: the first number that is not 0
infixr 5 ◌before◌
abbrev pub ◌before◌ : ℕ → ℕ → ℕ
zero before b = b
suc a before b = suc a

-- a call's tests in their order: the first number that is not 0, or 0 where all have passed
unfoldable pub first : List ℕ → ℕ
first [] = 0
first (test ∷ tests) = test before first tests
