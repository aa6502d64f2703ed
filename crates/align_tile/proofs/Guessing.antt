-- The guess is the definition's, and as near as the candidates.
use Rattle.std.specs.Prelude.{◌≡◌}
use Rattle.align_tile.specs.Prelude.{sym, subst, ◌∙◌, false, Within, List, ℕ, ℤ, residual}
use Rattle.align_residual.specs.declared.Tile.{Tile}
use Rattle.geometry.specs.declared.vectors.Vector.{Vector}
use Rattle.align_search.specs.SearchLaws.{guess-within}
use Rattle.align_tile.specs.declared.Area.{Area}
use Rattle.align_tile.specs.Stored.{pair_in, guessed_in, least_of_three}
use Rattle.align_tile.specs.StoredLaws.{guess-is}

module _ (words : List ℤ) (a : Area) (t : Tile) (own sideways vertically : Vector) {best : Vector} {x y z : ℕ} (is : best ≡ least_of_three own sideways vertically x y z) (ex : x ≡ residual false (pair_in words a) t own) (ey : y ≡ residual false (pair_in words a) t sideways) (ez : z ≡ residual false (pair_in words a) t vertically) where
  pub best_is : best ≡ guessed_in words a t own sideways vertically
  best_is = is ∙ guess-is (pair_in words a) t own sideways vertically x y z ex ey ez

  pub best-within : Within 336 own → Within 336 sideways → Within 336 vertically → Within 336 best
  best-within h k l = subst (Within 336) (sym best_is) (guess-within (pair_in words a) t own sideways vertically 336 h k l)
