-- Inside this crate and merge_frame: the output as code gathers it, from corrections that are summed over the other frames first, and then windowed.
use Rattle.std.specs.Prelude.{◌≡◌, ◌++◌, ◌+◌, ◌*◌, ◌/◌, ◌%◌, ◌<◌, ◌-ℤ◌, ◌*ℤ◌}
use Rattle.merge_gather.specs.Prelude.{cond, List, ℕ, zero, suc, eqb, get_or, ℤ, pos, clamp_z, upward, tab, windows, windows32, side_of}
use Rattle.algebra.specs.Sums.{sum_z}
use Rattle.recipe.specs.Side.{Side}
use Rattle.recipe.specs.Output.{weight_in}
use Rattle.merge_gather.specs.declared.Span.{Span}

-- the windows of a side as code holds them: thirty-two numbers, of which side 16 has the first sixteen
unfoldable pub window_table : (side : ℕ) → List ℕ
window_table side = cond (eqb side 32) windows32 (windows ++ tab 16 (λ _. 0))

-- the weight at place l of row i of a pair of tiles, which is column l/2 of one of the two
abbrev pub weight_of : (side i l : ℕ) → ℤ
weight_of side i l = pos ((side_of side).window i * (side_of side).window (l / 2))

-- r is the weights of row i, and numbers that are not read
pub record Weights (side i : ℕ) (r : List ℤ) : Type 0 where
  pub at : (l : ℕ) → l < 2 * side → get_or r l (pos 0) ≡ weight_of side i l

-- what the four tiles over a sample have at it, windowed and added; the sample is row i and column j of the last tile
unfoldable pub windowed : Side → (i j : ℕ) → (ℕ → ℤ) → ℤ
windowed n i j c = sum_z 4 (λ t. pos (weight_in n i j t) *ℤ c t)

-- T0 − sum/(256·weight·N), to nearest, halves upward, held to 0..4095
unfoldable pub corrected : Side → (t0 : ℕ) (sum : ℤ) (others : ℕ) → ℤ
corrected n t0 sum others =
    let whole = 256 * (n.weight * suc others) in
    clamp_z (pos 0) (pos 4095) (upward (pos t0 *ℤ pos whole -ℤ sum) whole)

-- where the words of the lower and of the upper row of pairs start
abbrev pub start_of : Span → ℕ → ℕ
start_of p zero = p.below
start_of p (suc u) = p.above

-- what tile t over the word c places further on has at it, in the work area
unfoldable pub word_over : List ℤ → Span → (c t : ℕ) → ℤ
word_over work p c t = get_or work (start_of p (t / 2) + (p.side * p.side * (2 * (c / p.side) + t % 2) + c % p.side)) (pos 0)
