-- How a burst file begins.
use Rattle.std.specs.Prelude.{◌∷◌}
use Rattle.file_burst.specs.Head.Prelude.{List, [], ℕ}

-- "A line of names, `width height count reference shot read strength`", with its LF
abbrev pub names : List ℕ
names =
    119 ∷ 105 ∷ 100 ∷ 116 ∷ 104 ∷ 32 ∷ 104 ∷ 101 ∷ 105 ∷ 103 ∷ 104 ∷ 116 ∷ 32 ∷ 99 ∷ 111 ∷ 117 ∷ 110 ∷ 116 ∷ 32
    ∷ 114 ∷ 101 ∷ 102 ∷ 101 ∷ 114 ∷ 101 ∷ 110 ∷ 99 ∷ 101 ∷ 32 ∷ 115 ∷ 104 ∷ 111 ∷ 116 ∷ 32 ∷ 114 ∷ 101 ∷ 97 ∷ 100 ∷ 32
    ∷ 115 ∷ 116 ∷ 114 ∷ 101 ∷ 110 ∷ 103 ∷ 116 ∷ 104 ∷ 10 ∷ []
