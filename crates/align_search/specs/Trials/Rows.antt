-- How many rows of a tile are summed before an offset is left (request L12).
use Rattle.align_search.specs.Trials.Prelude.{cond, ℕ, zero, suc, leb, sum_n}

-- "leave one after the row at which its running total reaches the best so far": of n rows with the sums f, the least j from 1 on such that the first j
-- rows' total reaches the best, else all n. One row more than suc n is summed unless the total of these has reached it.
unfoldable pub rows : (best : ℕ) → (f : ℕ → ℕ) → (n : ℕ) → ℕ
rows best f zero = 0
rows best f (suc zero) = 1
rows best f (suc (suc n)) = cond (leb best (sum_n (suc n) f)) (rows best f (suc n)) (suc (suc n))
