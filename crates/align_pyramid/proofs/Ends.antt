-- A list stored in three: its first element, n by a loop, and the last.
use Rattle.std.specs.Prelude.{◌≡◌, ◌+◌, ◌≤◌, ◌<◌}
use Rattle.algebra.specs.Prelude.{subst, List, ℕ, arith}
use lib.ListN.{length, set, length-set}
use Rattle.sequences.specs.Write.{written, Writing, write-start, write-turn, write-part, write_done}

module _ {A : Type 0} (d : List A) (a : A) (n : ℕ) (room : n + 2 ≤ length d) where
  pub ends-start : {g : ℕ → A} → Writing (set d 0 a) 1 g n 0 (set d 0 a)
  ends-start = write-start (omega (arith, length-set d 0 a))

  pub ends-length : {g : ℕ → A} {j : ℕ} {l : List A} → Writing (set d 0 a) 1 g n j l → length l ≡ length d
  ends-length w = omega (arith, w.same, length-set d 0 a)

  pub ends-done : (f : ℕ → A) {g : ℕ → A} {j : ℕ} {l : List A} {b : A} → Writing (set d 0 a) 1 g n j l → n ≤ j → a ≡ f 0 → ((k : ℕ) → k < n → g k ≡ f (1 + k)) → b ≡ f (1 + n)
      → set l (1 + n) b ≡ written d 0 f (n + 2)
  ends-done f {g} {j} {l} {b} w h first inner last =
      let begun : Writing d 0 f (n + 2) 1 (set d 0 a) = write-turn (write-start (omega arith)) (omega arith) first in
      let most : Writing d 0 f (n + 2) (1 + n) l = write-part begun (omega arith) inner (write_done w h) in
      let all : Writing d 0 f (n + 2) (1 + n + 1) (set l (0 + (1 + n)) b) = write-turn most (omega arith) last in
      subst (λ i. set l i b ≡ written d 0 f (n + 2)) (omega arith) (write_done all (omega arith))
