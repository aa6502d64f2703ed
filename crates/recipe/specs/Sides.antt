-- "Offer side 32 at level 0 and in the merge" (request L8): the side of that many samples, 32 or else 16.
use Rattle.algebra.specs.Prelude.{cond, ℕ, eqb}
use Rattle.recipe.specs.Side.{Side}
use Rattle.recipe.specs.Tables.{side16}
use Rattle.recipe.specs.Tables32.{side32}

unfoldable pub side_of : ℕ → Side
side_of n = cond (eqb n 32) side32 side16
