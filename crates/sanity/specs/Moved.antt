-- Try a tile that has moved, to within 4 of the guess: the search finds a residual of 0, and the move itself where no other offset fits as well.
use Rattle.std.specs.Prelude.{◌≡◌, ◌<◌, ◌+ℤ◌}
use Rattle.algebra.specs.Prelude.{ap, ◌∙◌, Bool, ℕ, arith, pos}
use Rattle.sanity.specs.Prelude.{Tile, Vector, ◌plus◌, difference, Pair, row_residual, residual}
use Rattle.align_patch.specs.Bounds.{Within}
use Rattle.align_search.specs.Offsets.{offset}
use Rattle.align_search.specs.OffsetLaws.{offset-within}
use Rattle.sequences.specs.LeastLaws.{first_min-most}
use Rattle.align_search.specs.Search.{tried, chosen, best_vector}
use Rattle.align_search.specs.SearchLaws.{none-smaller}
use Rattle.sanity.specs.StillLaws.{sum_n-zero, difference-same}

-- moved by v, the other frame has the reference's samples on the tile
pub record Moved (p : Pair) (t : Tile) (v : Vector) : Type 0 where
  pub at : (i j : ℕ) → i < t.side → j < t.side →
      p.other (t.origin.down +ℤ pos i +ℤ v.down) (t.origin.right +ℤ pos j +ℤ v.right) ≡ p.reference (t.origin.down +ℤ pos i) (t.origin.right +ℤ pos j)

moved-residual : (squared : Bool) {p : Pair} {t : Tile} {v : Vector} → Moved p t v → residual squared p t v ≡ 0
unfolding residual row_residual
moved-residual squared {p} {t} m =
    sum_n-zero t.side _ (λ i h. sum_n-zero t.side _ (λ j k. ap (difference squared _) (m.at i j h k) ∙ difference-same squared _))

module _ (squared : Bool) (p : Pair) (t : Tile) (guess move : Vector) (near : Within 4 move) (m : Moved p t (guess plus move)) where
  pub residual-none : residual squared p t (best_vector squared p t guess) ≡ 0
  residual-none = omega (arith, none-smaller squared p t guess move near, moved-residual squared m)

  pub move-found : ((o : Vector) → Within 4 o → residual squared p t (guess plus o) ≡ 0 → o ≡ move) → best_vector squared p t guess ≡ guess plus move
  unfolding best_vector chosen
  move-found alone =
      ap (λ o. guess plus o) (alone (offset (chosen squared p t guess)) (offset-within (chosen squared p t guess) (omega (arith, first_min-most (tried squared p t guess) 80))) residual-none)
