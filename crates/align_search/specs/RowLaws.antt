-- Laws of the rows that a search sums: of the next offset, and the bounds 648, 1,344 and 2,688.
use Rattle.std.specs.Prelude.{◌≡◌, ◌-◌, ◌*◌, ◌≤◌, ◌<◌}
use Rattle.align_search.specs.Prelude.{refl, ap, ◌∙◌, Bool, ℕ, zero, suc, arith, sum_n, Vector, Tile, Pair, row_residual}
use Rattle.std.proofs.Common.{⊎_elim}
use Rattle.algebra.specs.SumLaws.{sum_n-cong, sum_n-bound}
use Rattle.sequences.specs.LeastLaws.{first_min-most, first_min-cong, Lowest}
use Rattle.align_search.specs.Trials.Rows.{rows}
use Rattle.align_search.specs.Trials.RowLaws.{rows-most, rows_all, rows-cong}
use Rattle.align_search.specs.Vectors.{◌plus◌}
use Rattle.align_search.specs.Offsets.{offset}
use Rattle.align_search.specs.Rows.{least_of, offset_rows, search_rows, candidate_rows}

module _ (f : ℕ → ℕ → ℕ) (n : ℕ) where
  pub offset-rows-most : (k : ℕ) → offset_rows f n k ≤ n
  unfolding offset_rows
  offset-rows-most zero = omega arith
  offset-rows-most (suc k) = rows-most (least_of (λ k. sum_n n (f k)) k) (f (suc k)) n

  module _ (g : ℕ → ℕ → ℕ) (m : ℕ) (e : (k i : ℕ) → k < m → i < n → f k i ≡ g k i) where
    pub same_total : (k : ℕ) → k < m → sum_n n (f k) ≡ sum_n n (g k)
    same_total k h = sum_n-cong n (f k) (g k) (λ i l. e k i h l)

    same-least : (k : ℕ) → k < m → least_of (λ k. sum_n n (f k)) k ≡ least_of (λ k. sum_n n (g k)) k
    unfolding least_of
    same-least k h =
        let q = first_min-cong (λ k. sum_n n (f k)) (λ k. sum_n n (g k)) k (λ j l. same_total j (omega arith)) in
        same_total _ (omega (arith, first_min-most (λ k. sum_n n (f k)) k)) ∙ ap (λ j. sum_n n (g j)) q

    pub offset-rows-cong : (k : ℕ) → k < m → offset_rows f n k ≡ offset_rows g n k
    unfolding offset_rows
    offset-rows-cong zero h = refl
    offset-rows-cong (suc k) h =
        rows-cong (least_of (λ k. sum_n n (f k)) k) (f (suc k)) (g (suc k)) n (λ i l. e (suc k) i h l)
        ∙ ap (λ b. rows b (g (suc k)) n) (same-least k (omega arith))

-- the rows of the next offset, against the least of those before
pub next-rows : (f : ℕ → ℕ → ℕ) (n : ℕ) {b top count k at low : ℕ} → Lowest (λ k. sum_n n (f k)) b top count k at low → b < top → sum_n n (f k) ≤ b → rows low (f k) n ≡ offset_rows f n k
unfolding offset_rows least_of
next-rows f n {b} {top} {count} {k} {at} {low} w h l =
    ⊎_elim
    (λ z.
    let l : sum_n n (f k) < low = omega (arith, z.1) in
    rw z.0 (rows_all low (f 0) n (rw z.0 at l)))
    (λ s. let e : k ≡ suc (k - 1) = omega (arith, s.0.some) in rw e (rw (s.0.best_is, s.0.is) refl))
    w.is

-- "The count stays within 648 rows for a level-3 tile and 1,344 for a 16-tile elsewhere, candidates' 48 included; for a 32-tile it is 2,688"
module _ (squared : Bool) (p : Pair) (t : Tile) (guess : Vector) where
  pub search-rows-most : search_rows squared p t guess ≤ 81 * t.side
  unfolding search_rows
  search-rows-most =
      sum_n-bound 81 t.side (offset_rows (λ k. row_residual squared p t (guess plus offset k)) t.side)
      (λ k h. offset-rows-most (λ k. row_residual squared p t (guess plus offset k)) t.side k)

  pub candidate-rows-most : candidate_rows squared p t guess ≤ 84 * t.side
  unfolding candidate_rows
  candidate-rows-most = omega (arith, search-rows-most)

  pub eight-rows-most : t.side ≡ 8 → search_rows squared p t guess ≤ 648
  eight-rows-most e = omega (arith, search-rows-most)

  pub sixteen-rows-most : t.side ≡ 16 → candidate_rows squared p t guess ≤ 1344
  sixteen-rows-most e = omega (arith, candidate-rows-most)

  pub thirty-two-rows-most : t.side ≡ 32 → candidate_rows squared p t guess ≤ 2688
  thirty-two-rows-most e = omega (arith, candidate-rows-most)
