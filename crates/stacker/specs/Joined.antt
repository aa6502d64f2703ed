-- Lists joined in order.
use Rattle.std.specs.Prelude.{List, [], ◌++◌}
use Rattle.algebra.specs.Prelude.{ℕ, zero, suc}

-- f 0, .., f (n − 1), one behind the other
unfoldable pub joined : {A : Type 0} → ℕ → (ℕ → List A) → List A
joined zero f = []
joined (suc n) f = joined n f ++ f n
