-- The ceiling of request L11, for any side whose tables and scales fit together.
use Rattle.std.specs.Prelude.{◌≡◌, ◌-◌, ◌*◌, ◌≤◌, ◌<◌}
use Rattle.algebra.specs.Prelude.{refl, ℕ, zero, suc, arith, ℤ, pos}
use Rattle.std.proofs.Common.{le_trans}
use Rattle.std.proofs.Math.Nat.{lt_of_mul-lt-mul_left}
use Rattle.std.proofs.Math.Decide.{dec_le}
use Rattle.recipe.specs.Side.{Side}
use Rattle.recipe.specs.PlainOutput.{output_sample}
use Rattle.closeness.specs.Closeness.{Fitting}
use Rattle.closeness.specs.Ceiling.Leak.{largest, leak, UnderCeiling}
use Rattle.closeness.specs.Ceiling.Ceiling.{Circle, sample-most, room}

below : (noise : ℕ → ℕ) (i : ℕ) → i < 4 → noise i ≤ largest noise
below noise zero h = omega arith
below noise (suc zero) h = omega arith
below noise (suc (suc zero)) h = omega arith
below noise (suc (suc (suc zero))) h = omega arith
below noise (suc (suc (suc (suc i)))) h = absurd (omega arith)

module _ {s : Side} {m most w : ℕ} (t : Fitting s most w) (c : Circle s m most) where
  module _ (a b others : ℕ) (noise : ℕ → ℕ) (d : ℕ → ℕ → ℕ → ℕ → ℤ) (t0 : ℕ) (k : a < s.half) (l : b < s.half) (few : others ≤ 7) (h : t0 ≤ 4095) where
    abbrev step : ℕ
    step = leak (output_sample s a b others noise d (pos t0)) (pos t0)

    -- were V below (2·parts·n)² for n = step − 1, step would be at most n
    too_far : (n : ℕ) → step - 1 ≡ n → largest noise < 4 * (s.parts * s.parts) * (n * n) → ⊥
    too_far zero g f = omega arith
    too_far (suc n) g f =
        let root = s.parts * suc n in
        let low : (i : ℕ) → i < 4 → noise i ≤ 4 * (root * root) = λ i j. le_trans (below noise i j) (omega arith) in
        let near : step < suc (suc n) = lt_of_mul-lt-mul_left (512 * (s.divisor * suc others)) (omega (arith, sample-most t c root a b others noise d k l low t0 h, room t c others (suc n) few)) in
        omega arith

    pub ceiling : UnderCeiling s step (largest noise)
    ceiling = decided (dec_le (4 * (s.parts * s.parts) * ((step - 1) * (step - 1))) (largest noise))
      where
        decided : Dec (UnderCeiling s step (largest noise)) → UnderCeiling s step (largest noise)
        decided (yes f) = f
        decided (no f) = absurd (too_far (step - 1) refl (omega arith))
