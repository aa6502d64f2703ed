-- Where no tile over a sample has a correction, the output is the reference sample.
use Rattle.sanity.specs.Prelude.{ap, ◌∙◌, ℕ, suc, arith, lit<, sum_z, zarith, clamp_z, upward, Side, correction_at, row_in, column_in, weight_in, output_sample}
use Rattle.std.proofs.Common.{mul-pos}
use Rattle.std.proofs.Math.Nat.{div-eq_of_lt-le}
use Rattle.std.specs.Prelude.{ℤ, ◌-ℤ◌, ◌*ℤ◌, ◌≡◌, ◌+◌, ◌*◌, ◌≤◌, ◌<◌}
use Rattle.std.proofs.Math.IntN.{pos, *ℤ-zero}
use Rattle.algebra.specs.ClampLaws.{clamp-same}
use Rattle.tile_spectrum.specs.ZeroLaws.{sum_z-zero}

-- m·n/m to nearest is n
upward-whole : (n m : ℕ) → 0 < m → upward (pos n *ℤ pos m -ℤ pos 0) m ≡ pos n
unfolding upward
upward-whole n m h = ap pos (div-eq_of_lt-le {k = n} (2 * m) {m = 2 * (n * m + 0) + m} (omega arith) (omega arith))

module _ (s : Side) (a b others : ℕ) (noise : ℕ → ℕ) (d : ℕ → ℕ → ℕ → ℕ → ℤ) (t0 : ℕ) where
  pub output-kept : t0 ≤ 4095 → ((t z : ℕ) → t < 4 → z < others → correction_at s (noise t) (d t z) (row_in s a t) (column_in s b t) ≡ pos 0) → output_sample s a b others noise d (pos t0) ≡ pos t0
  unfolding output_sample
  output-kept most none =
      let whole = 256 * (s.weight * suc others) in
      let nothing : sum_z 4 (λ t. sum_z others (λ z. pos (weight_in s a b t) *ℤ correction_at s (noise t) (d t z) (row_in s a t) (column_in s b t))) ≡ pos 0 =
      sum_z-zero 4 _ (λ t h. sum_z-zero others _ (λ z k. ap (λ c. pos (weight_in s a b t) *ℤ c) (none t z h k) ∙ *ℤ-zero (pos (weight_in s a b t)))) in
      ap (λ z. clamp_z (pos 0) (pos 4095) (upward (pos t0 *ℤ pos whole -ℤ z) whole)) nothing
      ∙ ap (clamp_z (pos 0) (pos 4095)) (upward-whole t0 whole (mul-pos {m = 256} (lit< tt) (mul-pos s.weight_above (omega arith))))
      ∙ clamp-same (pos 0) (pos 4095) (pos t0) (omega zarith) (omega zarith)
