-- What a loop by pairs of rows counts and answers, and one row by row.
use Rattle.std.specs.Prelude.{◌≡◌, ◌+◌, ◌*◌, ◌≤◌, ◌<◌}
use Rattle.align_search.specs.Trials.Prelude.{refl, sym, ap, ◌∙◌, Bool, true, false, cond, ℕ, suc, arith, leb, sum_n}
use Rattle.std.proofs.Common.{leb-true, leb-false}
use Rattle.std.specs.declared.option.Option.TheVariants.{None, Some}
use Rattle.align_search.specs.declared.trials.Tried.{Tried}
use Rattle.align_search.specs.Trials.Rows.{rows}
use Rattle.align_search.specs.Trials.RowLaws.{sums-grow, rows_left, rows_all}
use Rattle.align_search.specs.Trials.Trial.{Left}

-- the first i of m pairs of rows, each pair at most b, have not reached the best: a loop's invariant
pub record Running (best : ℕ) (f : ℕ → ℕ) (b m i sum : ℕ) : Type 0 where
  pub count : i ≤ m
  pub is : sum ≡ sum_n (2 * i) f
  pub below : 0 < i → sum < best
  pub most : sum ≤ i * b

module _ {best : ℕ} {f : ℕ → ℕ} {b m : ℕ} where
  pub run-start : Running best f b m 0 0
  unfolding sum_n
  run-start = record { count = omega arith; is = refl; below = λ h. absurd (omega arith); most = omega arith }

  module _ {i sum first both : ℕ} (w : Running best f b m i sum) (h : i < m) (e : first ≡ sum + f (2 * i)) (g : both ≡ first + f (2 * i + 1)) where
    -- the totals up to the two rows
    first_is : first ≡ sum_n (suc (2 * i)) f
    unfolding sum_n
    first_is = omega (arith, e, w.is)

    both_is : both ≡ sum_n (suc (suc (2 * i))) f
    unfolding sum_n
    both_is =
        let q : 2 * i + 1 ≡ suc (2 * i) = omega arith in
        omega (arith, g, first_is, ap f q)

    pub run-turn : both ≤ sum + b → both < best → Running best f b m (i + 1) both
    run-turn l k =
        record {
          count = omega arith;
          is = both_is ∙ ap (λ n. sum_n n f) (omega arith);
          below = λ h. k;
          most = omega (arith, w.most);
        }

    -- an offset that is left in these rows
    pub run-left : {r : Tried} → best ≤ both → (r.least ≡ None) × (r.rows ≡ 2 * i + cond (leb best first) 1 2) → Left best f (2 * m) r
    run-left {r} k a =
        record {
          rows_are = a.1 ∙ by (leb best first) refl;
          found = rw a.0 (omega (arith, both_is, sums-grow f (suc (suc (2 * i))) (2 * m) (omega arith)));
        }
      where
        by : (t : Bool) → leb best first ≡ t → 2 * i + cond t 1 2 ≡ rows best f (2 * m)
        by true e =
            let l = leb-true best first e in
            omega (arith, rows_left best f (2 * m) (2 * i) (omega arith) (λ p. omega (arith, w.is, w.below (omega arith))) (omega (arith, first_is)))
        by false e =
            let l = leb-false best first e in
            omega (arith, rows_left best f (2 * m) (suc (2 * i)) (omega arith) (λ p. omega (arith, first_is)) (omega (arith, both_is)))

  -- and one that is summed whole
  pub run-done : {i sum : ℕ} {r : Tried} → Running best f b m i sum → m ≤ i → 0 < m → r.least ≡ Some sum → r.rows ≡ 2 * m → Left best f (2 * m) r
  run-done {i} {sum} {r} w h s t n =
      let e : sum ≡ sum_n (2 * m) f = w.is ∙ ap (λ n. sum_n n f) (omega (arith, w.count)) in
      let l = w.below (omega arith) in
      record {
        rows_are = n ∙ sym (rows_all best f (2 * m) (omega arith));
        found = rw t (omega arith, e);
      }

-- ---- row by row

-- the first i of n rows, each at most b, have not reached the best: a loop's invariant
pub record Summing (best : ℕ) (f : ℕ → ℕ) (b n i sum : ℕ) : Type 0 where
  pub count : i ≤ n
  pub is : sum ≡ sum_n i f
  pub below : 0 < i → sum < best
  pub most : sum ≤ i * b

module _ {best : ℕ} {f : ℕ → ℕ} {b n : ℕ} where
  pub row-start : Summing best f b n 0 0
  unfolding sum_n
  row-start = record { count = omega arith; is = refl; below = λ h. absurd (omega arith); most = omega arith }

  module _ {i sum v : ℕ} (w : Summing best f b n i sum) (h : i < n) (e : v ≡ f i) where
    total-is : sum + v ≡ sum_n (suc i) f
    unfolding sum_n
    total-is = omega (arith, e, w.is)

    pub row-turn : v ≤ b → sum + v < best → Summing best f b n (i + 1) (sum + v)
    row-turn l k = record { count = omega arith; is = total-is ∙ ap (λ n. sum_n n f) (omega arith); below = λ h. k; most = omega (arith, w.most) }

    -- an offset that is left in this row
    pub row-left : {r : Tried} → best ≤ sum + v → (r.least ≡ None) × (r.rows ≡ i + 1) → Left best f n r
    row-left {r} k a =
        record {
          rows_are = a.1 ∙ omega (arith, rows_left best f n i h (λ p. omega (arith, w.is, w.below (omega arith))) (omega (arith, total-is)));
          found = rw a.0 (omega (arith, total-is, sums-grow f (suc i) n (omega arith)));
        }

  -- and one that is summed whole
  pub row_done : {i sum : ℕ} {r : Tried} → Summing best f b n i sum → n ≤ i → 0 < n → r.least ≡ Some sum → r.rows ≡ n → Left best f n r
  row_done {i} {sum} {r} w h s t o =
      let e : sum ≡ sum_n n f = w.is ∙ ap (λ k. sum_n k f) (omega (arith, w.count)) in
      let l = w.below (omega arith) in
      record {
        rows_are = o ∙ sym (rows_all best f n (omega arith));
        found = rw t (omega arith, e);
      }
