-- The four tiles over a sample: where w(i) + w(i + half) is the windows' scale for each i, their products w·w' add up to its square.
use Rattle.std.specs.Prelude.{◌≡◌, ◌+◌, ◌*◌, ◌<◌}
use Rattle.closeness.specs.Prelude.{ap₂, ℕ, arith, Side}
use Rattle.algebra.specs.Sums.{sum_n}
use Rattle.recipe.specs.Output.{weight_in}

pub four-windows : (s : Side) (w : ℕ) → ((i : ℕ) → i < s.half → s.window i + s.window (i + s.half) ≡ w) → (a b : ℕ) → a < s.half → b < s.half → sum_n 4 (weight_in s a b) ≡ w * w
unfolding sum_n
four-windows s w h a b k l = rw (none a, none b, once a, once b) (omega (arith, ap₂ ◌*◌ (h a k) (h b l)))
  where
    none : (a : ℕ) → a + 0 * s.half ≡ a
    none a = omega arith

    once : (a : ℕ) → a + 1 * s.half ≡ a + s.half
    once a = omega arith
