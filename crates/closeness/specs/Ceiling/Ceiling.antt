-- Up to the ceiling of request L11, for any side whose tables and scales fit together: how far one sample can lie from the reference sample. The ceiling follows in proofs/Ceiling/Ceiling.
use Rattle.algebra.specs.Prelude.{ap, [], ℕ, suc, arith, lit<, ℤ, pos, nat_abs}
use Rattle.std.proofs.Common.{le_trans, mod-lt, mul-pos, mul-le-mul_right}
use Rattle.std.proofs.Math.Nat.{mul-le-mul_left, div-mul-le_self, le_of_mul-le-mul_left}
use Rattle.std.specs.Prelude.{◌≤ℤ◌, ◌∷◌, ◌+◌, ◌*◌, ◌%◌, ◌≤◌, ◌<◌, ◌+ℤ◌, ◌-ℤ◌, ◌*ℤ◌}
use Rattle.algebra.specs.Vars.{vars5}
use Rattle.algebra.specs.Ring.{Expr, ◌⊞◌, ◌⊟◌, ◌⊠◌}
use Rattle.algebra.specs.Order.{0≤pos, abs-mul}
use Rattle.algebra.specs.Cert.{nn, sqr, le, ◌⊕◌, ◌⊗◌, by_le, le-pos}
use Rattle.algebra.specs.Sums.{sum_z}
use Rattle.algebra.specs.SumLaws.{sum_n-scale}
use Rattle.algebra.specs.Lipschitz.{sq}
use Rattle.algebra.specs.Nearest.{upward}
use Rattle.algebra.specs.NearestLaws.{upward-rounds}
use Rattle.recipe.specs.Side.{Side, cos_at, sin_at}
use Rattle.recipe.specs.Correction.{bin_re, bin_im, quantized, filtered, twiddle_re, twiddle_im, inverse_re, inverse_at, correction_at}
use Rattle.recipe.specs.Output.{row_in, column_in, weight_in}
use Rattle.recipe.specs.PlainOutput.{output_sample}
use Rattle.closeness.specs.Windows.{four-windows}
use Rattle.closeness.specs.Closeness.{Fitting, twiddle}
use Rattle.closeness.specs.Ceiling.Leak.{leak}
use Rattle.algebra.specs.Most.{away-abs, moved, sum-most, sums_most, clamp-toward}
use Rattle.closeness.specs.Ceiling.Share.{share-most}

-- The tables lie in a circle: no C(k)² + S(k)² is above m, and that is at most 8/7 of the scale; what rounding G and P adds to P/256 is at most 1/2
pub record Circle (s : Side) (m most : ℕ) : Type 0 where
  pub half_above : 0 < s.half
  pub entry : (k : ℕ) → k < s.side → (sq (s.cosine k) +ℤ sq (s.sine k)) ≤ℤ pos m
  pub factor : 7 * m ≤ 8 * s.scale
  pub slack : s.side * s.side * most ≤ 255 * s.divisor

-- 2·divisor·|P| is at most this, where V ≤ 4·root²
abbrev pub tile_most : Side → (m most root : ℕ) → ℕ
tile_most s m most root = s.side * (s.side * (2 * (m * root) + most)) + s.divisor

module _ {s : Side} {m most w : ℕ} (t : Fitting s most w) (c : Circle s m most) where
  -- the modulus of a factor of the inverse: (c·c' − s·s')² + (c·s' + s·c')² = (c² + s²)·(c'² + s'²)
  modulus : (y x u v : ℕ) → (sq (twiddle_re s y x u v) +ℤ sq (twiddle_im s y x u v)) ≤ℤ sq (pos m)
  unfolding twiddle_re twiddle_im cos_at sin_at
  modulus y x u v =
      let (C, S, C', S', M) = vars5 in
      let i = (u * y) % s.side in
      let j = (v * x) % s.side in
      let sq_e : Expr → Expr = λ e. e ⊠ e in
      by_le (s.cosine i ∷ s.sine i ∷ s.cosine j ∷ s.sine j ∷ pos m ∷ []) (sq_e (C ⊠ C' ⊟ S ⊠ S') ⊞ sq_e (C ⊠ S' ⊞ S ⊠ C')) (sq_e M)
      (nn M (0≤pos m) ⊗ le (sq_e C ⊞ sq_e S) M (c.entry i (mod-lt (u * y) s.side_above)) ⊕ (sqr C ⊕ sqr S) ⊗ le (sq_e C' ⊞ sq_e S') M (c.entry j (mod-lt (v * x) s.side_above))) tt

  module _ (root : ℕ) where
    tile-most : (noise : ℕ) (d : ℕ → ℕ → ℤ) (y x : ℕ) → noise ≤ 4 * (root * root) → 2 * s.divisor * nat_abs (correction_at s noise d y x) ≤ tile_most s m most root
    unfolding correction_at inverse_at inverse_re filtered
    tile-most noise d y x l =
        let z : ℤ = inverse_re s (λ u v. filtered s noise (bin_re s d u v) (bin_im s d u v)) (λ u v. filtered s noise (bin_im s d u v) (bin_re s d u v)) y x in
        let sum : 2 * nat_abs z ≤ s.side * (s.side * (2 * (m * root) + most)) =
        sums_most 2 s.side _ _
        (λ u i. sums_most 2 s.side _ _
        (λ v j. share-most m most root (twiddle_re s y x u v) (twiddle_im s y x u v) (modulus y x u v) (twiddle t y x u v) noise (quantized s (bin_re s d u v)) (quantized s (bin_im s d u v)) l)) in
        rw away-abs (omega (arith, sum, div-mul-le_self (2 * nat_abs z + s.divisor) (2 * s.divisor)))

    -- one sample, each of whose four noise numbers is at most 4·root²
    module _ (a b others : ℕ) (noise : ℕ → ℕ) (d : ℕ → ℕ → ℕ → ℕ → ℤ) (k : a < s.half) (l : b < s.half) (low : (i : ℕ) → i < 4 → noise i ≤ 4 * (root * root)) where
      abbrev P : ℕ → ℕ → ℤ
      P i z = correction_at s (noise i) (d i z) (row_in s a i) (column_in s b i)

      abbrev sum_p : ℤ
      sum_p = sum_z 4 (λ i. sum_z others (λ z. pos (weight_in s a b i) *ℤ P i z))

      abbrev e : ℕ
      e = tile_most s m most root

      windows-most : 2 * s.divisor * nat_abs sum_p ≤ others * e * s.weight
      windows-most =
          le_trans
          (sum-most (2 * s.divisor) 4 _ (λ i. others * e * weight_in s a b i)
          (λ i j. le_trans (sums_most (2 * s.divisor) others (weight_in s a b i * e) _ (λ z h. weighed i z j)) (omega arith)))
          (rw (sum_n-scale 4 (others * e) (weight_in s a b), four-windows s w t.window_halves a b k l, t.weight_is) (omega arith))
        where
          weighed : (i z : ℕ) → i < 4 → 2 * s.divisor * nat_abs (pos (weight_in s a b i) *ℤ P i z) ≤ weight_in s a b i * e
          weighed i z j =
              rw (abs-mul (pos (weight_in s a b i)) (P i z))
              (omega (arith, mul-le-mul_left (weight_in s a b i) (tile-most (noise i) (d i z) (row_in s a i) (column_in s b i) (low i j))))

      pub sample-most : (t0 : ℕ) → t0 ≤ 4095 → 512 * (s.divisor * suc others) * leak (output_sample s a b others noise d (pos t0)) (pos t0) ≤ 256 * (s.divisor * suc others) + others * e
      unfolding output_sample
      sample-most t0 h =
          let n = 256 * (s.weight * suc others) in
          let z : ℤ = pos t0 *ℤ pos n -ℤ sum_p in
          let far : 2 * (n * nat_abs (upward z n -ℤ pos t0)) ≤ n + 2 * nat_abs sum_p = moved n (pos t0) sum_p (upward z n) (upward-rounds z n (mul-pos {m = 256} (lit< tt) (mul-pos s.weight_above (omega arith)))) in
          le_of_mul-le-mul_left {k = s.weight}
          (omega (arith, windows-most, mul-le-mul_left s.divisor far, mul-le-mul_left (512 * (s.divisor * suc others) * s.weight) (clamp-toward (pos 0) (pos 4095) (upward z n) (pos t0) (0≤pos t0) (le-pos h))))
          s.weight_above

  -- what `sample-most` allows at V ≤ (2·parts·k)² is below k + 1: others/N of k·m/scale and of 1/2, and 1/2 for the output's rounding
  pub room : (others k : ℕ) → others ≤ 7 → 256 * (s.divisor * suc others) + others * tile_most s m most (s.parts * k) < 512 * (s.divisor * suc others) * suc k
  room others k few =
      let shrunk : others * m ≤ suc others * s.scale = omega (arith, mul-le-mul_left others c.factor, mul-le-mul_right s.scale few) in
      omega (arith, mul-le-mul_left (2 * k * (s.parts * (s.side * s.side))) shrunk, ap (λ z. 2 * k * suc others * z) t.divisor_is, mul-le-mul_left others c.slack, s.divisor_above)
