-- The folded transform of a line of sixteen, from its eight sums and from its eight differences: the same values, by the same names, in whole numbers and in double.
use Rattle.std.specs.Prelude.{◌∷◌}
use Rattle.tile_lines.specs.Whole.Prelude.{[]}
use Rattle.tile_spectrum.specs.Lines.Program.{Program, arg, ◌⊕◌, ◌⊖◌, minus, ◌⊗◌, wide, ◌>>=◌, give}

abbrev pub even : Program
even = do
  a ← wide (arg 0) ⊕ wide (arg 4)
  b ← wide (arg 1) ⊕ wide (arg 5)
  c ← wide (arg 2) ⊕ wide (arg 6)
  d ← wide (arg 3) ⊕ wide (arg 7)
  p ← arg 1 ⊖ arg 5
  q ← arg 3 ⊖ arg 7
  m ← 16384 ⊗ wide (arg 0 ⊖ arg 4)
  n ← 16384 ⊗ wide (arg 2 ⊖ arg 6)
  g ← 11585 ⊗ wide (p ⊖ q)
  h ← 11585 ⊗ wide (p ⊕ q)
  give (16384 ⊗ (a ⊕ c ⊕ (b ⊕ d)) ∷ m ⊕ g ∷ 16384 ⊗ (a ⊖ c) ∷ m ⊖ g ∷ 16384 ⊗ (a ⊕ c ⊖ (b ⊕ d)) ∷ minus n ⊖ h ∷ 16384 ⊗ (d ⊖ b) ∷ n ⊖ h ∷ [])

abbrev pub odd : Program
odd = do
  a ← 16384 ⊗ wide (arg 0)
  b ← wide (arg 1 ⊖ arg 7)
  c ← 11585 ⊗ wide (arg 2 ⊖ arg 6)
  d ← wide (arg 3 ⊖ arg 5)
  p ← 15137 ⊗ b ⊕ 6270 ⊗ d
  q ← 6270 ⊗ b ⊖ 15137 ⊗ d
  e ← 16384 ⊗ wide (arg 4)
  f ← wide (arg 3 ⊕ arg 5)
  g ← 11585 ⊗ wide (arg 2 ⊕ arg 6)
  h ← wide (arg 1 ⊕ arg 7)
  u ← 15137 ⊗ f ⊕ 6270 ⊗ h
  w ← 6270 ⊗ f ⊖ 15137 ⊗ h
  give (a ⊕ c ⊕ p ∷ a ⊖ c ⊕ q ∷ a ⊖ c ⊖ q ∷ a ⊕ c ⊖ p ∷ minus e ⊖ g ⊖ u ∷ e ⊖ g ⊕ w ∷ g ⊖ e ⊕ w ∷ e ⊕ g ⊖ u ∷ [])
