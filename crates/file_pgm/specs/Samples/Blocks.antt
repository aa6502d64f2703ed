-- Inner vocabulary: the samples of bytes in blocks of 64, as the code goes through them.
use Rattle.std.specs.Prelude.{◌+◌, ◌-◌, ◌*◌, ◌/◌, ◌%◌, ◌<◌}
use Rattle.algebra.specs.Prelude.{List, ℕ, get_or}
use Rattle.sequences.specs.Tab.{tab}

-- what holds of all bytes
pub record Bytes (bytes : List ℕ) : Type 0 where
  pub below : (k : ℕ) → get_or bytes k 0 < 256

-- byte k of the samples from a place on where it is a high one, else 0
unfoldable pub high : (bytes : List ℕ) (from k : ℕ) → ℕ
high bytes from k = get_or bytes (from + k) 0 * (1 - k % 2)

-- 64 words from a place on, low byte first
unfoldable pub words_from : (bytes : List ℕ) (from : ℕ) → List ℕ
words_from bytes from = tab 64 (λ k. get_or bytes (from + 2 * k) 0 + get_or bytes (from + 2 * k + 1) 0 * 256)

-- a word with its two bytes exchanged
unfoldable pub exchanged : ℕ → ℕ
exchanged word = word % 256 * 256 + word / 256 % 256
