-- Pairs of rows of squared differences, over the side.
use Rattle.std.specs.Prelude.{◌≡◌, ◌+◌, ◌*◌, ◌/◌, ◌%◌, ◌≤◌}
use Rattle.align_search.specs.Trials.Prelude.{ap, subst, ◌∙◌, true, List, ℕ, arith, square_row}
use Rattle.std.proofs.Common.{div-add-mod'}
use native.Mathlib.Nat.{mul-le-mul_right}
use Rattle.align_search.specs.declared.trials.Tried.{Tried}
use Rattle.align_search.specs.Trials.Trial.{Left}
use Rattle.align_residual.specs.Local.{SquaredRows}
use Rattle.align_residual.specs.SixteenLaws.{row_at}

pub halves : (side : ℕ) → side % 2 ≡ 0 → 2 * (side / 2) ≡ side
halves side e = omega (arith, e, div-add-mod' side 2)

pub left-all : {low n m : ℕ} {f : ℕ → ℕ} {r : Tried} → n ≡ m → Left low f n r → Left low f m r
left-all {low} {f = f} {r = r} e l = subst (λ n. Left low f n r) e l

module _ (side y x i : ℕ) (h : y ≤ 8) (k : x ≤ 8) (l : 2 * i + 2 ≤ side) where
  pub pair-room : 2 * i * side + 2 * side ≤ side * side
  pair-room = omega (arith, mul-le-mul_right side l)

  below : y + 2 * i + 2 ≤ side + 8
  below = omega arith

  pub pair_room-seen : y * (side + 8) + x + 2 * i * (side + 8) + 2 * side + 8 ≤ (side + 8) * (side + 8)
  pair_room-seen = omega (arith, mul-le-mul_right (side + 8) below)

-- the two rows
module _ {tile window : List ℕ} {side upper lower : ℕ} (start i : ℕ) (r : SquaredRows side tile window (2 * i * side) (start + 2 * i * (side + 8)) upper lower) (sum : ℕ) where
  pub first_is : sum + upper ≡ sum + square_row true tile window start (side + 8) side (2 * i)
  first_is = ap (λ n. sum + n) (r.upper_is ∙ row_at true tile window start (side + 8) side (2 * i) _ _ (omega arith) (omega arith))

  pub both_are : sum + upper + lower ≡ sum + upper + square_row true tile window start (side + 8) side (2 * i + 1)
  both_are = ap (λ n. sum + upper + n) (r.lower_is ∙ row_at true tile window start (side + 8) side (2 * i + 1) _ _ (omega arith) (omega arith))
