-- Inside the crates of the merge: m of each bin (u, v), u and v up to 8, as a table.
use Rattle.std.specs.Prelude.{◌≡◌, ◌∷◌}
use Rattle.noise.specs.Prelude.{refl, List, [], ℕ, tab, grid, frequency, distance}
use Rattle.recipe.specs.Root.{root_in, whole_root}

unfoldable pub distances : List (List ℕ)
distances =
    (0 ∷ 16 ∷ 32 ∷ 48 ∷ 64 ∷ 80 ∷ 96 ∷ 112 ∷ 128 ∷ []) ∷
    (16 ∷ 22 ∷ 35 ∷ 50 ∷ 65 ∷ 81 ∷ 97 ∷ 113 ∷ 128 ∷ []) ∷
    (32 ∷ 35 ∷ 45 ∷ 57 ∷ 71 ∷ 86 ∷ 101 ∷ 116 ∷ 131 ∷ []) ∷
    (48 ∷ 50 ∷ 57 ∷ 67 ∷ 80 ∷ 93 ∷ 107 ∷ 121 ∷ 136 ∷ []) ∷
    (64 ∷ 65 ∷ 71 ∷ 80 ∷ 90 ∷ 102 ∷ 115 ∷ 128 ∷ 143 ∷ []) ∷
    (80 ∷ 81 ∷ 86 ∷ 93 ∷ 102 ∷ 113 ∷ 124 ∷ 137 ∷ 150 ∷ []) ∷
    (96 ∷ 97 ∷ 101 ∷ 107 ∷ 115 ∷ 124 ∷ 135 ∷ 147 ∷ 160 ∷ []) ∷
    (112 ∷ 113 ∷ 116 ∷ 121 ∷ 128 ∷ 137 ∷ 147 ∷ 158 ∷ 170 ∷ []) ∷
    (128 ∷ 128 ∷ 131 ∷ 136 ∷ 143 ∷ 150 ∷ 160 ∷ 170 ∷ 181 ∷ []) ∷ []

-- one computed test over the whole table
pub distances-are : distances ≡ grid 9 9 distance
unfolding distances grid tab distance frequency whole_root root_in
distances-are = refl
