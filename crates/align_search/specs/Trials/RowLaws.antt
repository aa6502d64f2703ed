-- Laws of the rows that are summed: the rule in terms of the least row.
use Rattle.std.specs.Prelude.{◌≡◌, ◌+◌, ◌≤◌, ◌<◌}
use Rattle.align_search.specs.Trials.Prelude.{refl, ap₂, Bool, true, false, cond, ℕ, zero, suc, arith, leb, sum_n}
use borrow.Author.Tests.{leb-true, leb-false, le-leb, lt-leb}
use Rattle.algebra.specs.SumLaws.{sum_n-cong}
use Rattle.align_search.specs.Trials.Rows.{rows}

-- totals only grow
pub sums-grow : (f : ℕ → ℕ) (m n : ℕ) → m ≤ n → sum_n m f ≤ sum_n n f
unfolding sum_n
sums-grow f m zero h = let e : m ≡ 0 = omega arith in rw e (omega arith)
sums-grow f m (suc n) h = by (sums-grow f m n) (leb m n) refl
  where
    by : (m ≤ n → sum_n m f ≤ sum_n n f) → (t : Bool) → leb m n ≡ t → sum_n m f ≤ sum_n n f + f n
    by g true e = omega (arith, g (leb-true m n e))
    by g false e = let q : m ≡ suc n = omega (arith, leb-false m n e) in rw q (omega arith)

module _ (best : ℕ) (f : ℕ → ℕ) where
  pub rows-most : (n : ℕ) → rows best f n ≤ n
  unfolding rows
  rows-most zero = omega arith
  rows-most (suc zero) = omega arith
  rows-most (suc (suc n)) = by (rows-most (suc n)) (leb best (sum_n (suc n) f))
    where
      by : rows best f (suc n) ≤ suc n → (t : Bool) → cond t (rows best f (suc n)) (suc (suc n)) ≤ suc (suc n)
      by g true = omega arith
      by g false = omega arith

  -- the totals before the last row that is summed have not reached the best
  pub rows-first : (n j : ℕ) → 0 < j → j < rows best f n → sum_n j f < best
  unfolding rows
  rows-first zero j p h = absurd (omega arith)
  rows-first (suc zero) j p h = absurd (omega arith)
  rows-first (suc (suc n)) j p h = by (rows-first (suc n) j p) (leb best (sum_n (suc n) f)) refl h
    where
      by : (j < rows best f (suc n) → sum_n j f < best) → (t : Bool) → leb best (sum_n (suc n) f) ≡ t → j < cond t (rows best f (suc n)) (suc (suc n)) → sum_n j f < best
      by g true e h = g h
      by g false e h = omega (arith, leb-false best (sum_n (suc n) f) e, sums-grow f j (suc n) (omega arith))

  -- and where not all are summed, the total has
  pub rows-reach : (n : ℕ) → rows best f n < n → best ≤ sum_n (rows best f n) f
  unfolding rows
  rows-reach zero h = absurd (omega arith)
  rows-reach (suc zero) h = absurd (omega arith)
  rows-reach (suc (suc n)) h = by (rows-reach (suc n)) (leb best (sum_n (suc n) f)) refl h
    where
      last : (rows best f (suc n) < suc n → best ≤ sum_n (rows best f (suc n)) f) → best ≤ sum_n (suc n) f → (t : Bool) → leb (suc n) (rows best f (suc n)) ≡ t → best ≤ sum_n (rows best f (suc n)) f
      last g r true e = let q : rows best f (suc n) ≡ suc n = omega (arith, rows-most (suc n), leb-true (suc n) (rows best f (suc n)) e) in rw q r
      last g r false e = g (leb-false (suc n) (rows best f (suc n)) e)

      by : (rows best f (suc n) < suc n → best ≤ sum_n (rows best f (suc n)) f) → (t : Bool) → leb best (sum_n (suc n) f) ≡ t → cond t (rows best f (suc n)) (suc (suc n)) < suc (suc n) → best ≤ sum_n (cond t (rows best f (suc n)) (suc (suc n))) f
      by g true e h = last g (leb-true best (sum_n (suc n) f) e) (leb (suc n) (rows best f (suc n))) refl
      by g false e h = absurd (omega arith)

  -- where a total is the first to reach the best
  pub rows_left : (n j : ℕ) → j < n → (0 < j → sum_n j f < best) → best ≤ sum_n (suc j) f → rows best f n ≡ suc j
  unfolding rows
  rows_left zero j h b r = absurd (omega arith)
  rows_left (suc zero) j h b r = omega arith
  rows_left (suc (suc n)) j h b r = by (λ l. rows_left (suc n) j l b r) (leb (suc j) (suc n)) refl
    where
      by : (j < suc n → rows best f (suc n) ≡ suc j) → (t : Bool) → leb (suc j) (suc n) ≡ t → cond (leb best (sum_n (suc n) f)) (rows best f (suc n)) (suc (suc n)) ≡ suc j
      by g true e =
          let l = leb-true (suc j) (suc n) e in
          rw (le-leb best (sum_n (suc n) f) (omega (arith, sums-grow f (suc j) (suc n) l))) (g (omega arith))
      by g false e =
          let q : j ≡ suc n = omega (arith, leb-false (suc j) (suc n) e) in
          let l : sum_n (suc n) f < best = rw q at (b (omega arith)) in
          rw (lt-leb best (sum_n (suc n) f) l) (omega arith)

  -- where none does
  pub rows_all : (n : ℕ) → sum_n n f < best → rows best f n ≡ n
  unfolding rows
  rows_all zero h = refl
  rows_all (suc zero) h = refl
  rows_all (suc (suc n)) h = rw (lt-leb best (sum_n (suc n) f) (omega (arith, sums-grow f (suc n) (suc (suc n)) (omega arith)))) refl

-- the same sums, the same rows
pub rows-cong : (best : ℕ) (f g : ℕ → ℕ) (n : ℕ) → ((i : ℕ) → i < n → f i ≡ g i) → rows best f n ≡ rows best g n
unfolding rows
rows-cong best f g zero e = refl
rows-cong best f g (suc zero) e = refl
rows-cong best f g (suc (suc n)) e =
    ap₂ (λ s r. cond (leb best s) r (suc (suc n))) (sum_n-cong (suc n) f g (λ i h. e i (omega arith))) (rows-cong best f g (suc n) (λ i h. e i (omega arith)))
