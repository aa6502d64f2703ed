-- A loop that adds up natural numbers.
use Rattle.std.specs.Prelude.{◌≡◌}
use Rattle.algebra.specs.Prelude.{refl, ap, ◌∙◌, arith}
use Prim.Native.Nat.{ℕ, ◌+◌, ◌*◌, ◌≤◌, ◌<◌, zero-le}
use Rattle.std.proofs.Common.{add-one}
use Rattle.std.proofs.Math.Nat.{suc-mul}
use Rattle.algebra.specs.Sums.{sum_n}

-- acc is the sum of the first i of n terms, each at most b: a loop's invariant
pub record Summed (f : ℕ → ℕ) (b n i acc : ℕ) : Type 0 where
  pub count : i ≤ n
  pub is : acc ≡ sum_n i f
  pub most : acc ≤ i * b

module _ {f : ℕ → ℕ} {b n : ℕ} where
  pub sum-start : Summed f b n 0 0
  unfolding sum_n
  sum-start = record { count = zero-le; is = refl; most = zero-le }

  pub sum-turn : {i acc v : ℕ} → Summed f b n i acc → i < n → v ≡ f i → v ≤ b → Summed f b n (i + 1) (acc + v)
  unfolding sum_n
  sum-turn {i} {acc} {v} w h e l =
      let m : acc + v ≤ i * b + b = omega (arith, w.most) in
      record { count = omega arith; is = rw (add-one i, w.is, e); most = rw (add-one i, suc-mul i b) m }

  pub sum_done : {i acc : ℕ} → Summed f b n i acc → n ≤ i → acc ≡ sum_n n f
  sum_done {i} {acc} w h = let e : i ≡ n = omega arith in w.is ∙ ap (λ (k : ℕ). sum_n k f) e

  pub sum-most : {i acc : ℕ} → Summed f b n i acc → n ≤ i → acc ≤ n * b
  sum-most {i} {acc} w h = let e : i ≡ n = omega arith in rw e at w.most
