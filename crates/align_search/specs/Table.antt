-- Inner vocabulary: the offsets in tie order as the code has them, in two tables. `offset-tabled` (OffsetLaws): it is the order by the rule.
use Rattle.std.specs.Prelude.{◌∷◌, ◌-ℤ◌}
use Rattle.align_search.specs.Prelude.{List, [], ℕ, get_or, pos, Vector}

-- entry k is offset k's part plus 4
unfoldable pub downs : List ℕ
downs = 4 ∷ 3 ∷ 4 ∷ 4 ∷ 5 ∷ 2 ∷ 3 ∷ 3 ∷ 4 ∷ 4 ∷ 5 ∷ 5 ∷ 6 ∷ 1 ∷ 2 ∷ 2 ∷ 3 ∷ 3 ∷ 4 ∷ 4 ∷ 5 ∷ 5 ∷ 6 ∷ 6 ∷ 7 ∷ 0 ∷ 1 ∷ 1 ∷ 2 ∷ 2 ∷ 3 ∷ 3 ∷ 4 ∷ 4 ∷ 5 ∷ 5 ∷ 6 ∷ 6 ∷ 7 ∷ 7 ∷ 8 ∷ 0 ∷ 0 ∷ 1 ∷ 1 ∷ 2 ∷ 2 ∷ 3 ∷ 3 ∷ 5 ∷ 5 ∷ 6 ∷ 6 ∷ 7 ∷ 7 ∷ 8 ∷ 8 ∷ 0 ∷ 0 ∷ 1 ∷ 1 ∷ 2 ∷ 2 ∷ 6 ∷ 6 ∷ 7 ∷ 7 ∷ 8 ∷ 8 ∷ 0 ∷ 0 ∷ 1 ∷ 1 ∷ 7 ∷ 7 ∷ 8 ∷ 8 ∷ 0 ∷ 0 ∷ 8 ∷ 8 ∷ []

unfoldable pub rights : List ℕ
rights = 4 ∷ 4 ∷ 3 ∷ 5 ∷ 4 ∷ 4 ∷ 3 ∷ 5 ∷ 2 ∷ 6 ∷ 3 ∷ 5 ∷ 4 ∷ 4 ∷ 3 ∷ 5 ∷ 2 ∷ 6 ∷ 1 ∷ 7 ∷ 2 ∷ 6 ∷ 3 ∷ 5 ∷ 4 ∷ 4 ∷ 3 ∷ 5 ∷ 2 ∷ 6 ∷ 1 ∷ 7 ∷ 0 ∷ 8 ∷ 1 ∷ 7 ∷ 2 ∷ 6 ∷ 3 ∷ 5 ∷ 4 ∷ 3 ∷ 5 ∷ 2 ∷ 6 ∷ 1 ∷ 7 ∷ 0 ∷ 8 ∷ 0 ∷ 8 ∷ 1 ∷ 7 ∷ 2 ∷ 6 ∷ 3 ∷ 5 ∷ 2 ∷ 6 ∷ 1 ∷ 7 ∷ 0 ∷ 8 ∷ 0 ∷ 8 ∷ 1 ∷ 7 ∷ 2 ∷ 6 ∷ 1 ∷ 7 ∷ 0 ∷ 8 ∷ 0 ∷ 8 ∷ 1 ∷ 7 ∷ 0 ∷ 8 ∷ 0 ∷ 8 ∷ []

unfoldable pub tabled : ℕ → Vector
tabled k = record { down = pos (get_or downs k 0) -ℤ pos 4; right = pos (get_or rights k 0) -ℤ pos 4 }
