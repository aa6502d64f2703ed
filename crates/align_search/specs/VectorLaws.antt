-- Bounds of vectors.
use Rattle.std.specs.Prelude.{◌+◌, ◌≤◌}
use Rattle.align_search.specs.Prelude.{ℕ, arith, Vector, Within}
use Rattle.algebra.specs.Order.{abs-add}
use Rattle.align_search.specs.Vectors.{◌plus◌}

pub within_more : {a : ℕ} {v : Vector} (b : ℕ) → Within a v → a ≤ b → Within b v
within_more b w h = record { vertical = omega (arith, w.vertical); sideways = omega (arith, w.sideways) }

pub plus-within : {a b : ℕ} {v w : Vector} → Within a v → Within b w → Within (a + b) (v plus w)
plus-within {a} {b} {v} {w} h k =
    record {
      vertical = omega (arith, h.vertical, k.vertical, abs-add v.down w.down);
      sideways = omega (arith, h.sideways, k.sideways, abs-add v.right w.right);
    }
