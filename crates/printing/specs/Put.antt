-- A buffer with a text put into it.
use Rattle.std.specs.Prelude.{◌≡◌, ◌++◌, ◌+◌}
use Rattle.printing.specs.Prelude.{List, ℕ, length, take, drop}

-- the bytes in place of those that stood from `at` on
unfoldable pub put : List ℕ → ℕ → List ℕ → List ℕ
put buffer at bytes = take at buffer ++ bytes ++ drop (at + length bytes) buffer

-- `after` is `before` with the bytes from `at` on, and `next` is the place after them
pub record Printed (before : List ℕ) (at : ℕ) (bytes after : List ℕ) (next : ℕ) : Type 0 where
  pub text : after ≡ put before at bytes
  pub place : next ≡ at + length bytes
  pub same : length after ≡ length before
