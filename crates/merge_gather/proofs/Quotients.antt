-- The output's quotient without a division: by 2^32, rounding down, and then by the number of frames, as a product with its reciprocal.
use Rattle.std.specs.Prelude.{◌≡◌, ◌∷◌, ◌+◌, ◌*◌, ◌/◌, ◌≤◌, ◌<◌, ◌+ℤ◌, ◌-ℤ◌, ◌*ℤ◌, ◌≤ℤ◌, ◌<ℤ◌}
use Rattle.merge_gather.specs.Prelude.{ap, [], ℕ, zero, suc, arith, lit<, ℤ, pos, negsuc, nat_abs, shr_z, clamp_z, upward}
use native.Mathlib.Nat.{mul-pos, le-div_iff_mul-le, div-lt_iff_lt-mul}
use Rattle.algebra.specs.Vars.{vars6}
use Rattle.algebra.specs.Ring.{◌⊞◌, ◌⊟◌, ◌⊠◌, #◌}
use Rattle.algebra.specs.Order.{zarith, 0≤pos}
use Rattle.algebra.specs.Cert.{num, nn, le, lt, ◌⊕◌, ◌⊗◌, by_le, by-lt}
use Rattle.algebra.specs.ClampLaws.{clamp-below, clamp-same, clamp-above}
use Rattle.algebra.specs.Floor.{floor-le, floor-lt, floor-unique}

-- t − s/(2·h·n), to nearest, halves upward, in two steps that round down
pub upward-twice : (t s : ℤ) (h n : ℕ) → 0 < h → 0 < n → upward (t *ℤ pos (2 * h * n) -ℤ s) (2 * h * n) ≡ shr_z (t *ℤ pos n +ℤ shr_z (pos n *ℤ pos h -ℤ s) (2 * h)) n
unfolding upward
upward-twice t s h n h-pos n_pos =
    let first = shr_z (pos n *ℤ pos h -ℤ s) (2 * h) in
    let second = shr_z (t *ℤ pos n +ℤ first) n in
    let (T, S, H, N, F, G) = vars6 in
    let xs = t ∷ s ∷ pos h ∷ pos n ∷ first ∷ second ∷ [] in
    let two-h : 0 < 2 * h = mul-pos {m = 2} (lit< tt) h-pos in
    floor-unique _ second (2 * (2 * h * n)) (mul-pos {m = 2} (lit< tt) (mul-pos two-h n_pos))
    (by_le xs (# 2 ⊠ (# 2 ⊠ H ⊠ N) ⊠ G) (# 2 ⊠ (T ⊠ (# 2 ⊠ H ⊠ N) ⊟ S) ⊞ # 2 ⊠ H ⊠ N)
    (num 2 ⊗ le (# 2 ⊠ H ⊠ F) (N ⊠ H ⊟ S) (floor-le _ (2 * h) two-h) ⊕ nn (# 4 ⊠ H) (0≤pos (4 * h)) ⊗ le (N ⊠ G) (T ⊠ N ⊞ F) (floor-le _ n n_pos)) tt)
    (by-lt xs (# 2 ⊠ (T ⊠ (# 2 ⊠ H ⊠ N) ⊟ S) ⊞ # 2 ⊠ H ⊠ N) (# 2 ⊠ (# 2 ⊠ H ⊠ N) ⊠ G ⊞ # 2 ⊠ (# 2 ⊠ H ⊠ N))
    (num 1 ⊕ num 2 ⊗ lt (N ⊠ H ⊟ S) (# 2 ⊠ H ⊠ F ⊞ # 2 ⊠ H) (floor-lt _ (2 * h) two-h) ⊕ nn (# 4 ⊠ H) (0≤pos (4 * h)) ⊗ lt (T ⊠ N ⊞ F) (N ⊠ G ⊞ N) (floor-lt _ n n_pos)) tt)

-- y / n from 2^19 / n, rounded up
pub reciprocal-19 : (y n : ℕ) → 1 ≤ n → n ≤ 8 → y < 4096 * n → y * ((524287 + n) / n) / 524288 ≡ y / n
reciprocal-19 y zero h k l = absurd (omega arith)
reciprocal-19 y (suc zero) h k l = omega arith
reciprocal-19 y (suc (suc zero)) h k l = omega arith
reciprocal-19 y (suc (suc (suc zero))) h k l = omega arith
reciprocal-19 y (suc (suc (suc (suc zero)))) h k l = omega arith
reciprocal-19 y (suc (suc (suc (suc (suc zero))))) h k l = omega arith
reciprocal-19 y (suc (suc (suc (suc (suc (suc zero)))))) h k l = omega arith
reciprocal-19 y (suc (suc (suc (suc (suc (suc (suc zero))))))) h k l = omega arith
reciprocal-19 y (suc (suc (suc (suc (suc (suc (suc (suc zero)))))))) h k l = omega arith
reciprocal-19 y (suc (suc (suc (suc (suc (suc (suc (suc (suc n))))))))) h k l = absurd (omega arith)

-- z / n, rounding down, held to 0..4095: below, between and above
module _ (n : ℕ) where
  pub held_below : (z : ℤ) → z <ℤ pos 0 → nat_abs (clamp_z (pos 0) (pos 4095) (shr_z z n)) ≡ 0
  held_below (pos a) h = absurd (omega zarith)
  held_below (negsuc a) h = ap nat_abs (clamp-below (pos 0) (pos 4095) (negsuc (a / n)) (omega zarith) (omega zarith))

  pub held-between : (z : ℤ) → 0 < n → pos 0 ≤ℤ z → z <ℤ pos (4096 * n) → nat_abs (clamp_z (pos 0) (pos 4095) (shr_z z n)) ≡ nat_abs z / n
  held-between (pos a) l h k =
      let below : a / n < 4096 = (div-lt_iff_lt-mul {k = n} {x = a} {y = 4096} l).1 (omega zarith) in
      ap nat_abs (clamp-same (pos 0) (pos 4095) (pos (a / n)) (omega zarith) (omega zarith))
  held-between (negsuc a) l h k = absurd h.le

  pub held-above : (z : ℤ) → 0 < n → pos (4096 * n) ≤ℤ z → nat_abs (clamp_z (pos 0) (pos 4095) (shr_z z n)) ≡ 4095
  held-above (pos a) l h =
      let above : 4096 ≤ a / n = (le-div_iff_mul-le {k = n} {x = 4096} {y = a} l).1 (omega zarith) in
      ap nat_abs (clamp-above (pos 0) (pos 4095) (pos (a / n)) (omega zarith) (omega zarith))
  held-above (negsuc a) l h = absurd h.le
