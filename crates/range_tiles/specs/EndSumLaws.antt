-- The sum of one end's P, frame by frame: its record, and how it starts, goes on and ends.
use Rattle.std.specs.Prelude.{◌≡◌, ◌+◌, ◌*◌, ◌/◌, ◌%◌, ◌^◌, ◌≤◌, ◌<◌, ◌+ℤ◌}
use Rattle.range_tiles.specs.Prelude.{sym, ap, ap₂, subst, ◌∙◌, List, [], ℕ, arith, lit≤, eqb, ℤ, pos, nat_abs, side16, Scene, tile_noise, tile_difference, greatest_at, least_at, Noises, PairSums, NoisesFit, noise_of, pair_plus, pair_end, taken_most, PairTaken, at_site}
use Rattle.std.proofs.Common.{add-one, mul-le-mul_right}
use Rattle.std.proofs.Math.Nat.{le_trans}
use Rattle.algebra.specs.Order.{abs-add}
use Rattle.algebra.specs.Sums.{sum_z}
use Rattle.algebra.specs.SumLaws.{sum_z-suc, sum_z-cong, sum_z-0}
use Rattle.sequences.specs.Tab.{tab}
use Rattle.sequences.specs.TabLaws.{tab-each}
use Rattle.sequences.specs.Grid.{grid, cell, cell-grid, grid-ext, grid-of}
use Rattle.range.proofs.RangeLaws.{greatest-same, least-same}
use Rattle.tile_spectrum.specs.Lines.Lines.{LineMost, TileMost}
use Rattle.tile_spectrum.specs.Apart.{cond_cases}
use Rattle.tile_spectrum.specs.Magnitudes.{noise_most, small_most}
use Rattle.tile_spectrum.specs.Pairs.{plane_in, side_by_side}
use Rattle.tile_spectrum.specs.ZeroLaws.{no-noise}
use Rattle.merge_tiles.specs.declared.Site.{Site}
use Rattle.range_pair.specs.EndLaws.{greatest-cong, least-cong, greatest-most, least-most}
use Rattle.range_tiles.specs.EndSums.{EndAt, end_sum, EndSummed, end_taken}

-- what the sum needs of an end
pub record Ending (end : EndAt) : Type 0 where
  pub cong : (lower upper : ℕ) (d e : ℕ → ℕ → ℤ) → ((y x : ℕ) → y < 16 → x < 16 → d y x ≡ e y x) → (y x : ℕ) → end side16 lower upper d y x ≡ end side16 lower upper e y x
  pub most : (lower upper : ℕ) → lower ≤ noise_most → upper ≤ noise_most → (d : ℕ → ℕ → ℤ) (y x : ℕ) → nat_abs (end side16 lower upper d y x) ≤ small_most
  pub none : (d : ℕ → ℕ → ℤ) (y x : ℕ) → end side16 0 0 d y x ≡ pos 0

pub greatest-ending : Ending greatest_at
greatest-ending = record { cong = greatest-cong; most = greatest-most; none = λ d y x. greatest-same side16 0 d y x ∙ no-noise side16 side16.divisor_above d y x }

pub least-ending : Ending least_at
least-ending = record { cong = least-cong; most = least-most; none = λ d y x. least-same side16 0 d y x ∙ no-noise side16 side16.divisor_above d y x }

noise-most : {v : Noises} → NoisesFit v → (p : ℕ) → noise_of v p ≤ noise_most
noise-most f p = cond_cases (λ n. n ≤ noise_most) (eqb p 0) f.first_most f.second_most

module _ (end : EndAt) (s : Scene) (t : Site) (lower upper : Noises) where
  -- P of the tile of column parity p for the k-th other frame, and the sums of the first n of these, side by side
  abbrev pub term_at : (k p i j : ℕ) → ℤ
  term_at k p = end side16 (noise_of lower p) (noise_of upper p) (at_site (tile_difference s) t p k)

  abbrev pub part_at : (n i l : ℕ) → ℤ
  part_at n i l = sum_z n (λ k. side_by_side (term_at k) i l)

-- the sum after n of the other frames, up to seven
pub record Summing (end : EndAt) (s : Scene) (t : Site) (lower upper : Noises) (n : ℕ) (sum : List (List ℤ)) : Type 0 where
  pub count : n ≤ s.others
  pub few : s.others ≤ 7
  pub is : sum ≡ grid 16 32 (part_at end s t lower upper n)
  pub most : (i l : ℕ) → i < 16 → l < 32 → nat_abs (part_at end s t lower upper n i l) ≤ n * small_most

module _ {end : EndAt} {s : Scene} {t : Site} {lower upper : Noises} where
  pub sum-start : {sum : List (List ℤ)} → s.others ≤ 7 → sum ≡ grid 16 32 (λ i l. pos 0) → Summing end s t lower upper 0 sum
  unfolding sum_z
  sum-start few e = record { count = omega arith; few = few; is = e; most = λ i l h g. omega arith }

  cell_at : {n : ℕ} {sum : List (List ℤ)} → Summing end s t lower upper n sum → (i l : ℕ) → i < 16 → l < 32 → cell (pos 0) sum i l ≡ part_at end s t lower upper n i l
  cell_at {n} w i l h g = ap (λ x. cell (pos 0) x i l) w.is ∙ cell-grid (pos 0) 16 32 (part_at end s t lower upper n) i l h g

  -- one more frame: d its differences, and r the sum with their P
  module _ (ending : Ending end) {n : ℕ} {sum : List (List ℤ)} (w : Summing end s t lower upper n sum) (h : n < s.others) where
    pub sum-turn : {d r : List (List ℤ)} → NoisesFit lower → NoisesFit upper
        → d ≡ grid 16 32 (side_by_side (λ p. at_site (tile_difference s) t p n))
        → r ≡ pair_plus sum (pair_end d lower upper end)
        → Summing end s t lower upper (n + 1) r
    sum-turn {d} {r} a b de re =
        record {
          count = omega arith;
          few = w.few;
          is = re ∙ grid-ext 16 32 _ _ (λ i l g f. ap₂ ◌+ℤ◌ (cell_at w i l g f) (term (l % 2) (omega arith) i (l / 2)) ∙ next i l);
          most = λ i l g f. subst (λ z. nat_abs z ≤ (n + 1) * small_most) (next i l)
              (omega (arith, abs-add (part_at end s t lower upper n i l) (side_by_side (term_at end s t lower upper n) i l), low (l % 2) (omega arith) i (l / 2), w.most i l g f));
        }
      where
        plane : (p : ℕ) → p < 2 → (y x : ℕ) → y < 16 → x < 16 → plane_in (cell (pos 0) d) p y x ≡ at_site (tile_difference s) t p n y x
        plane p c y x g f =
            let parity : (2 * x + p) % 2 ≡ p = omega arith in
            let column : (2 * x + p) / 2 ≡ x = omega arith in
            ap (λ z. cell (pos 0) z y (2 * x + p)) de ∙ cell-grid (pos 0) 16 32 _ y (2 * x + p) g (omega arith) ∙ rw (parity, column)

        term : (p : ℕ) → p < 2 → (i j : ℕ) → end side16 (noise_of lower p) (noise_of upper p) (plane_in (cell (pos 0) d) p) i j ≡ term_at end s t lower upper n p i j
        term p c i j = ending.cong (noise_of lower p) (noise_of upper p) (plane_in (cell (pos 0) d) p) _ (plane p c) i j

        low : (p : ℕ) → p < 2 → (i j : ℕ) → nat_abs (term_at end s t lower upper n p i j) ≤ small_most
        low p c i j = subst (λ z. nat_abs z ≤ small_most) (term p c i j) (ending.most (noise_of lower p) (noise_of upper p) (noise-most a p) (noise-most b p) (plane_in (cell (pos 0) d) p) i j)

        next : (i l : ℕ) → part_at end s t lower upper n i l +ℤ side_by_side (term_at end s t lower upper n) i l ≡ part_at end s t lower upper (n + 1) i l
        next i l = rw (add-one n, sum_z-suc)

  sum-small : {n : ℕ} {sum : List (List ℤ)} → Summing end s t lower upper n sum → TileMost (2 ^ 40) sum
  unfolding grid
  sum-small {n} {sum} w =
      record {
        line = λ i. rw w.is
            (tab-each (LineMost (2 ^ 40)) [] (λ i. tab 32 (part_at end s t lower upper n i)) (record { at = λ l. omega arith }) 16
            (λ u h. record { at = tab-each (λ z. nat_abs z ≤ 2 ^ 40) (pos 0) (part_at end s t lower upper n u) (omega arith) 32 (λ l g. le_trans (w.most u l h g) (le_trans (mul-le-mul_right small_most few) (lit≤ tt))) }) i);
      }
    where
      few : n ≤ 7
      few = omega (arith, w.few, w.count)

  pub sum_room : {n : ℕ} {sum : List (List ℤ)} → Summing end s t lower upper n sum → PairSums sum
  sum_room {n} w = record { most = sum-small w; paired = record { is = grid-of (pos 0) 16 32 (part_at end s t lower upper n) w.is } }

  pub sum_done : {n : ℕ} {sum : List (List ℤ)} → Summing end s t lower upper n sum → s.others ≤ n → EndSummed end s t lower upper sum
  unfolding end_sum
  sum_done {n} {sum} w h =
      let e : n ≡ s.others = omega (arith, w.count) in
      record {
        is = w.is ∙ ap (λ m. grid 16 32 (part_at end s t lower upper m)) e;
        most = λ i l g f. subst (λ m. nat_abs (part_at end s t lower upper m i l) ≤ m * small_most) e (w.most i l g f);
      }

-- where all noise numbers are 0, so are the sums
pub none-summed : {end : EndAt} → Ending end → {s : Scene} {t : Site} {lower upper : Noises} {r : List (List ℤ)} → lower.first + lower.second + upper.first + upper.second ≡ 0 → r ≡ grid 16 32 (λ i l. pos 0) → EndSummed end s t lower upper r
unfolding end_sum
none-summed {end} ending {s} {t} {lower} {upper} e r-is =
    record {
      is = r-is ∙ sym (grid-ext 16 32 _ _ (λ i l h g. zero (l % 2) i (l / 2)));
      most = λ i l h g. rw (zero (l % 2) i (l / 2)) (omega arith);
    }
  where
    none : (v : Noises) → v.first ≡ 0 → v.second ≡ 0 → (p : ℕ) → noise_of v p ≡ 0
    none v f g p = cond_cases (λ n. n ≡ 0) (eqb p 0) f g

    zero : (p i j : ℕ) → at_site (end_sum end s (noise_of lower p) (noise_of upper p)) t p i j ≡ pos 0
    zero p i j =
        rw (none lower (omega arith) (omega arith) p, none upper (omega arith) (omega arith) p)
        (sum_z-cong s.others _ (λ k. pos 0) (λ k h. ending.none _ i j) ∙ sum_z-0 s.others)

-- the sums at a tile's noise numbers are what its ends take
pub end-taken : (end : EndAt) (lower upper : Scene) (t : Site) {v w : Noises} {r : List (List ℤ)} → lower.others ≤ 7
    → ((p : ℕ) → p < 2 → noise_of v p ≡ at_site (tile_noise lower) t p) → ((p : ℕ) → p < 2 → noise_of w p ≡ at_site (tile_noise upper) t p)
    → EndSummed end lower t v w r → PairTaken 16 (end_taken end lower upper) t r
unfolding end_taken
end-taken end lower upper t {v} {w} few a b summed =
    record {
      is = summed.is ∙ grid-ext 16 32 _ _ (λ i k h g. same (k % 2) (omega arith) i (k / 2));
      most = λ i k h g. subst (λ z. nat_abs z ≤ taken_most) (same (k % 2) (omega arith) i (k / 2)) (le_trans (summed.most i k h g) (le_trans (mul-le-mul_right small_most few) (lit≤ tt)));
    }
  where
    same : (p : ℕ) → p < 2 → (i j : ℕ) → at_site (end_sum end lower (noise_of v p) (noise_of w p)) t p i j ≡ at_site (end_taken end lower upper) t p i j
    same p h i j = ap₂ (λ m n. at_site (end_sum end lower m n) t p i j) (a p h) (b p h)
