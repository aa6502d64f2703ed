-- The search around a guess, and the guess from three candidates.
use Rattle.align_search.specs.Prelude.{Bool, false, ℕ, zero, suc, first_min, Tile, Vector, Pair, residual}
use Rattle.align_search.specs.Vectors.{◌plus◌}
use Rattle.align_search.specs.Offsets.{offset}

-- "Then all offsets −4..4 in both directions are tried": the residual at the k-th of them
unfoldable pub tried : (squared : Bool) → Pair → Tile → (guess : Vector) → ℕ → ℕ
tried squared p t guess k = residual squared p t (guess plus offset k)

-- the first of the least, in tie order
unfoldable pub chosen : (squared : Bool) → Pair → Tile → (guess : Vector) → ℕ
chosen squared p t guess = first_min (tried squared p t guess) 80

unfoldable pub best_vector : (squared : Bool) → Pair → Tile → (guess : Vector) → Vector
best_vector squared p t guess = guess plus offset (chosen squared p t guess)

-- the k-th of three
unfoldable pub three : (first second third : Vector) → ℕ → Vector
three first second third zero = first
three first second third (suc zero) = second
three first second third (suc (suc k)) = third

-- "Three candidates, their vectors times f: own; neighbour sideways; neighbour vertically. Least sum of absolute differences becomes the guess,
-- the earlier on a tie."
unfoldable pub guessed : Pair → Tile → (own sideways vertically : Vector) → Vector
guessed p t own sideways vertically =
    three own sideways vertically (first_min (λ k. residual false p t (three own sideways vertically k)) 2)
