-- The even places of a line of thirty-two are the places of its sums' line of sixteen.
use Rattle.std.specs.Prelude.{◌≡◌, ◌*◌, ◌<◌}
use Rattle.tile_lines32_whole.specs.Prelude.{ap, ◌∙◌, List, ℕ, ℤ, pos, tab, side16, side32, halfcomplex_of, sum_of, of}
use Rattle.sequences.specs.TabLaws.{get_d-tab}
use Rattle.sequences.specs.Grid.{tab-ext}
use Rattle.recipe.specs.TableLaws.{rules16}
use Rattle.recipe.specs.TableLaws32.{rules32, doubled32}
use Rattle.tile_spectrum.specs.Lines.SideFolds.{line-ext, even-doubled}

pub sums-places : (x : List ℤ) {s : List ℤ} → s ≡ tab 16 (sum_of side32 (of x)) → tab 16 (halfcomplex_of side16 (of s)) ≡ tab 16 (λ k. halfcomplex_of side32 (of x) (2 * k))
unfolding side16
sums-places x {s} e = tab-ext 16 _ _ (λ k l. line-ext side16 (of s) (sum_of side32 (of x)) number k ∙ even-doubled rules32 rules16 doubled32 (of x) k)
  where
    number : (n : ℕ) → n < side16.side → of s n ≡ sum_of side32 (of x) n
    number n h = ap (λ s. of s n) e ∙ get_d-tab (sum_of side32 (of x)) (pos 0) 16 n h
