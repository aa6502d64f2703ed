-- The offsets that are tried, in tie order.
use Rattle.std.specs.Prelude.{◌∷◌, ◌/◌, ◌%◌, ◌-ℤ◌}
use Rattle.align_search.specs.Prelude.{cond, List, [], ℕ, get_or, pos, tab, Vector}
use Rattle.align_search.specs.Vectors.{still}
use Rattle.align_search.specs.Ties.{earlier}

-- "all offsets −4..4 in both directions", row by row
unfoldable pub square : List Vector
square = tab 81 (λ k. record { down = pos (k / 9) -ℤ pos 4; right = pos (k % 9) -ℤ pos 4 })

-- an offset put before the first that it is earlier than
unfoldable pub placed : Vector → List Vector → List Vector
placed o [] = o ∷ []
placed o (p ∷ others) = cond (earlier o p) (o ∷ p ∷ others) (p ∷ placed o others)

-- offsets sorted by the tie rule
unfoldable pub sorted : List Vector → List Vector
sorted [] = []
sorted (o ∷ others) = placed o (sorted others)

-- "Try offsets in tie order" (request L12): the k-th of the 81
unfoldable pub offset : ℕ → Vector
offset k = get_or (sorted square) k still
