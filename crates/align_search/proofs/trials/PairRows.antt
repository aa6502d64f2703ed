-- A loop by pairs of rows of absolute differences, over the side: the sums that it is given are those of rows 2i and 2i + 1 of a square.
use Rattle.std.specs.Prelude.{◌≡◌, ◌+◌, ◌*◌, ◌≤◌, ◌<◌}
use Rattle.align_search.specs.Trials.Prelude.{refl, ap, ap₂, subst, ◌∙◌, false, cond, List, ℕ, arith, leb, square_row}
use Rattle.align_residual.specs.Local.{row_sum}
use Rattle.align_residual.specs.SixteenLaws.{row_at}
use Rattle.std.specs.declared.option.Option.TheVariants.{None}
use Rattle.align_search.specs.declared.trials.Tried.{Tried}
use Rattle.align_search.specs.Trials.Trial.{Left}
use Rattle.align_search.specs.Trials.LeaveLaws.{Running, run-turn, run-left}

module _ (tile window : List ℕ) (start stride side a b : ℕ) {low most m i sum both : ℕ} (w : Running low (square_row false tile window start stride side) most m i sum) (h : i < m) (t : both ≡ row_sum false tile window a b side + row_sum false tile window (a + side) (b + stride) side) (p : a ≡ 2 * i * side) (q : b ≡ start + 2 * i * stride) where
  abbrev f : ℕ → ℕ
  f = square_row false tile window start stride side

  upper_is : row_sum false tile window a b side ≡ f (2 * i)
  upper_is = row_at false tile window start stride side (2 * i) a b p q

  both-are : both ≡ f (2 * i) + f (2 * i + 1)
  both-are =
      t ∙ ap₂ ◌+◌ upper_is (row_at false tile window start stride side (2 * i + 1) (a + side) (b + stride) (omega (arith, p)) (omega (arith, q)))

  pub pair_turn : both ≤ most → sum + both < low → Running low f most m (i + 1) (sum + both)
  pair_turn l k = run-turn w h refl (omega (arith, both-are)) (omega arith) k

  -- left in these rows, where the best is held as `limit`
  pub pair_left : {limit upper : ℕ} {r : Tried} → limit ≡ low → limit ≤ sum + both → upper ≡ row_sum false tile window a b side → (r.least ≡ None) × (r.rows ≡ 2 * i + cond (leb limit (sum + upper)) 1 2) → Left low f (2 * m) r
  pair_left {upper = upper} {r = r} e l u x =
      run-left {both = sum + both} w h (ap (λ n. sum + n) (u ∙ upper_is)) (omega (arith, both-are, u, upper_is)) (omega (arith, e))
      (x.0, subst (λ b. r.rows ≡ 2 * i + cond (leb b (sum + upper)) 1 2) e x.1)
