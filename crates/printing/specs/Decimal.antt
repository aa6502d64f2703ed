-- Document 01, "print values without leading zeros": a number as the list of its digits' ASCII codes.
use Rattle.std.specs.Prelude.{◌∷◌, ◌++◌, ◌+◌, ◌/◌, ◌%◌}
use Rattle.printing.specs.Prelude.{List, [], code, ℕ, zero, suc}

-- the code of a digit
abbrev pub digit : ℕ → ℕ
digit d = code "0" + d

-- the digits of n, none of 0, and at most k: those of n / 10, then n % 10
unfoldable pub digits : ℕ → ℕ → List ℕ
digits zero n = []
digits (suc k) zero = []
digits (suc k) (suc m) = digits k (suc m / 10) ++ (digit (suc m % 10) ∷ [])

-- n printed: the digits of n / 10, of which there are at most n, then the last, so that 0 has one
unfoldable pub decimal : ℕ → List ℕ
decimal n = digits n (n / 10) ++ (digit (n % 10) ∷ [])
