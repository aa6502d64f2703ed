-- The loop that gathers the bits of numbers: they are above 2^k − 1 where one of the numbers is.
use Rattle.std.specs.Prelude.{◌≡◌, ◌||◌, ◌+◌, ◌^◌, ◌≤◌, ◌<◌}
use Rattle.algebra.specs.Prelude.{sym, ap, ◌∙◌, ℕ, suc, arith, ltb}
use Rattle.std.proofs.Common.{add-one, lt-ltb, le-ltb}
use Rattle.std.proofs.Math.Decide.{dec_lt}
use Rattle.std.specs.Int.Bits.{bit_or, or_add_and}
use Rattle.std.proofs.lemmas.Nat.{or_lt, and_le_l, and_le_r}
use Rattle.refusals.specs.Some.{some}
use Rattle.refusals.specs.SomeLaws.{or-true}

module _ (k : ℕ) {most : ℕ} (power : suc most ≡ 2 ^ k) where
  or_above : (a b : ℕ) → ltb most (bit_or a b) ≡ ltb most a || ltb most b
  or_above a b = by (dec_lt most a) (dec_lt most b)
    where
      by : Dec (most < a) → Dec (most < b) → ltb most (bit_or a b) ≡ ltb most a || ltb most b
      by (yes p) q = rw (lt-ltb most a p) (lt-ltb most (bit_or a b) (omega (arith, or_add_and a b, and_le_r a b)))
      by (no p) (yes q) = rw (lt-ltb most b q, or-true) (lt-ltb most (bit_or a b) (omega (arith, or_add_and a b, and_le_l a b)))
      by (no p) (no q) =
          rw (le-ltb most a (omega arith), le-ltb most b (omega arith))
          (le-ltb most (bit_or a b) (omega (arith, or_lt k a b (omega arith) (omega arith))))

-- the bits of f 0, .., f (i − 1) are gathered, of n: the loop's invariant
pub record Seen (f : ℕ → ℕ) (most n i seen : ℕ) : Type 0 where
  pub count : i ≤ n
  pub is : some i (λ k. ltb most (f k)) ≡ ltb most seen

module _ {f : ℕ → ℕ} {most n : ℕ} where
  pub seen_start : Seen f most n 0 0
  unfolding some
  seen_start = record { count = omega arith; is = sym (le-ltb most 0 (omega arith)) }

  pub seen-turn : (k : ℕ) → suc most ≡ 2 ^ k → {i seen : ℕ} → Seen f most n i seen → i < n → Seen f most n (i + 1) (bit_or seen (f i))
  unfolding some
  seen-turn k power {i} {seen} w h =
      record { count = omega arith; is = rw (add-one i) (ap (λ b. b || ltb most (f i)) w.is ∙ sym (or_above k power seen (f i))) }

  pub seen_done : {i seen : ℕ} → Seen f most n i seen → n ≤ i → some n (λ k. ltb most (f k)) ≡ ltb most seen
  seen_done {i} {seen} w h = let all : n ≡ i = omega arith in rw all w.is
