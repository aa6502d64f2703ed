-- What V is worked out for, inside this crate's contracts.
use Rattle.std.specs.Prelude.{◌≤◌}
use Rattle.algebra.specs.Prelude.{ℕ}

-- the bounds of refusals 9 and 10, and r's own for samples of 16 bits
pub record InRange (t ls lr r : ℕ) : Type 0 where
  pub strength : t ≤ 1024
  pub shot : ls ≤ 65536
  pub read : lr ≤ 4194304
  pub root : r ≤ 1048560
