-- A row of the copies: each number is at most copy_most.
use Rattle.std.specs.Prelude.{◌≡◌, ◌*◌, ◌≤◌, ◌-ℤ◌, ◌*ℤ◌}
use Rattle.tile_spatial.specs.Prelude.{List, ℕ, arith, get_or, ℤ, pos, nat_abs, w64, to_z, of_z, AtMost, away, small_most, copy_most}
use native.Mathlib.Nat.{mul-le-mul_right}
use Rattle.algebra.specs.Order.{abs-sub}
use Rattle.tile_spectrum.specs.Lines.Held.{number_is}
use Rattle.tile_spectrum.specs.RoundingLaws.{away-within}
use Rattle.tile_spatial.specs.Filtering.{Frames, SumMost, SampleRow, SumRow}

-- T0 less the sum of P over N
module _ {frames t0 : ℕ} {sum : ℤ} (f : Frames frames) (l : t0 ≤ 4095) (m : SumMost frames sum) where
  product : t0 * (256 * frames) ≤ 4095 * (256 * frames)
  product = mul-le-mul_right (256 * frames) l

  pub whole-most : t0 * (256 * frames) ≤ 8386560
  whole-most = omega (arith, product, f.few)

  pub dividend-most : nat_abs (pos (t0 * (256 * frames)) -ℤ sum) ≤ copy_most * frames
  dividend-most = omega (arith, product, abs-sub (pos (t0 * (256 * frames))) sum, m.most, f.few, f.some)

  pub quotient-most : AtMost copy_most (away (pos (t0 * (256 * frames)) -ℤ sum) frames)
  quotient-most = record { most = away-within (pos (t0 * (256 * frames)) -ℤ sum) frames copy_most (omega (arith, f.some)) dividend-most }

  pub sum-most : AtMost (7 * small_most) sum
  sum-most = record { most = omega (arith, m.most, f.few) }

  pub held-sum : to_z w64 (of_z w64 sum) ≡ sum
  held-sum = number_is w64 sum-most tt

-- number l of a row of the copies
abbrev pub part_of : (frames : ℕ) (t0 : List ℕ) (sum : List ℤ) (l : ℕ) → ℤ
part_of frames t0 sum l = away (pos (get_or t0 l 0) *ℤ pos (256 * frames) -ℤ get_or sum l (pos 0)) frames

pub part-most : {frames : ℕ} {t0 : List ℕ} {sum : List ℤ} → Frames frames → SampleRow t0 → SumRow frames sum → (l : ℕ) → nat_abs (part_of frames t0 sum l) ≤ copy_most
part-most f a b l = (quotient-most f (a.at l) (b.at l)).most
