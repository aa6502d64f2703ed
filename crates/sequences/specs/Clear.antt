-- Clearing a buffer.
use Rattle.algebra.specs.Prelude.{List, ℤ, pos}
use Rattle.std.specs.Prelude.{length, replicate}

-- as many zeros as l is long
unfoldable pub zeros : List ℤ → List ℤ
zeros l = replicate (length l) (pos 0)
