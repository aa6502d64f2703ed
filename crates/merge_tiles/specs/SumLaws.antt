-- Inside the crates of the merge: the sum of a pair's corrections, frame by frame: its record, and how it starts, goes on and ends.
use Rattle.std.specs.Prelude.{◌≡◌, ◌+◌, ◌*◌, ◌/◌, ◌%◌, ◌^◌, ◌≤◌, ◌<◌, ◌+ℤ◌}
use Rattle.merge_tiles.specs.Prelude.{sym, ap, ap₂, subst, ◌∙◌, List, [], ℕ, arith, ℤ, pos, nat_abs, tab, Side, plane_in, side_by_side, either, LineMost, TileMost, Scene, tile_noise, tile_difference}
use Rattle.std.proofs.Common.{add-one, mul-le-mul_right}
use Rattle.std.proofs.Math.Nat.{le_trans}
use Rattle.algebra.specs.Order.{abs-add}
use Rattle.algebra.specs.Sums.{sum_z}
use Rattle.algebra.specs.SumLaws.{sum_z-suc, sum_z-cong, sum_z-0}
use Rattle.sequences.specs.TabLaws.{tab-each}
use Rattle.sequences.specs.Grid.{grid, cell, cell-grid, grid-ext, grid-of}
use Rattle.recipe.specs.Correction.{correction_at}
use Rattle.tile_spectrum.specs.ZeroLaws.{no-noise}
use Rattle.tile_spectrum.specs.DifferenceLaws.{correction-cong}
use Rattle.merge_tiles.specs.declared.Site.{Site}
use Rattle.merge_tiles.specs.Sum.{at_site, summed_at, Summed}

module _ (s : Scene) (t : Site) where
  -- P of the tile of column parity p for the k-th other frame, and the sums of the first n of these, side by side
  abbrev pub term_at : (k p i j : ℕ) → ℤ
  term_at k p = correction_at s.side (at_site (tile_noise s) t p) (at_site (tile_difference s) t p k)

  abbrev pub part_at : (n i l : ℕ) → ℤ
  part_at n i l = sum_z n (λ k. side_by_side (term_at k) i l)

-- the sum after n of the other frames, up to seven, of tiles of side k whose corrections are at most `small`
pub record Summing (k small : ℕ) (s : Scene) (t : Site) (n : ℕ) (sum : List (List ℤ)) : Type 0 where
  pub count : n ≤ s.others
  pub few : s.others ≤ 7
  pub sided : s.side.side ≡ k
  pub is : sum ≡ grid k (2 * k) (part_at s t n)
  pub most : (i l : ℕ) → i < k → l < 2 * k → nat_abs (part_at s t n i l) ≤ n * small

-- where both V are 0, so is the sum
pub zero-summed : (k small : ℕ) {s : Scene} {t : Site} {sum : List (List ℤ)} → ((p : ℕ) → p < 2 → at_site (tile_noise s) t p ≡ 0) → sum ≡ grid k (2 * k) (λ i l. pos 0) → Summed k small s t sum
unfolding summed_at
zero-summed k small {s} {t} {sum} v e = record { is = e ∙ sym (grid-ext k (2 * k) _ _ (λ i l h g. zero (l % 2) (omega arith) i (l / 2))); most = λ i l h g. rw (zero (l % 2) (omega arith) i (l / 2)) (omega arith) }
  where
    zero : (p : ℕ) → p < 2 → (i j : ℕ) → at_site (summed_at s) t p i j ≡ pos 0
    zero p c i j = rw (v p c) (sum_z-cong s.others _ (λ k. pos 0) (λ k h. no-noise s.side s.side.divisor_above _ i j) ∙ sum_z-0 s.others)

module _ {k small : ℕ} {s : Scene} {t : Site} where
  pub sum-start : {sum : List (List ℤ)} → s.side.side ≡ k → s.others ≤ 7 → sum ≡ grid k (2 * k) (λ i l. pos 0) → Summing k small s t 0 sum
  unfolding sum_z
  sum-start n few e = record { count = omega arith; few = few; sided = n; is = e; most = λ i l h g. omega arith }

  cell_at : {n : ℕ} {sum : List (List ℤ)} → Summing k small s t n sum → (i l : ℕ) → i < k → l < 2 * k → cell (pos 0) sum i l ≡ part_at s t n i l
  cell_at {n} w i l h g = ap (λ x. cell (pos 0) x i l) w.is ∙ cell-grid (pos 0) k (2 * k) (part_at s t n) i l h g

  -- one more frame: d its differences, and r the sum with their corrections
  module _ {n : ℕ} {sum : List (List ℤ)} (w : Summing k small s t n sum) (h : n < s.others) where
    pub sum-turn : (side : Side) → s.side ≡ side → (first second : ℕ) {d r : List (List ℤ)} → ((p : ℕ) → p < 2 → either first second p ≡ at_site (tile_noise s) t p)
        → d ≡ grid k (2 * k) (side_by_side (λ p. at_site (tile_difference s) t p n))
        → r ≡ grid k (2 * k) (λ i l. cell (pos 0) sum i l +ℤ correction_at side (either first second (l % 2)) (plane_in (cell (pos 0) d) (l % 2)) i (l / 2))
        → ((p : ℕ) → p < 2 → (i j : ℕ) → nat_abs (term_at s t n p i j) ≤ small)
        → Summing k small s t (n + 1) r
    sum-turn side of-side first second {d} {r} v de re low =
        record {
          count = omega arith;
          few = w.few;
          sided = w.sided;
          is = re ∙ grid-ext k (2 * k) _ _ (λ i l g f. ap₂ ◌+ℤ◌ (cell_at w i l g f) (term (l % 2) (omega arith) i (l / 2)) ∙ next i l);
          most = λ i l g f. subst (λ z. nat_abs z ≤ (n + 1) * small) (next i l)
              (omega (arith, abs-add (part_at s t n i l) (side_by_side (term_at s t n) i l), low (l % 2) (omega arith) i (l / 2), w.most i l g f));
        }
      where
        inside : {i : ℕ} → i < s.side.side → i < k
        inside {i} h = subst (λ n. i < n) w.sided h

        plane : (p : ℕ) → p < 2 → (y x : ℕ) → y < k → x < k → plane_in (cell (pos 0) d) p y x ≡ at_site (tile_difference s) t p n y x
        plane p c y x g f =
            let parity : (2 * x + p) % 2 ≡ p = omega arith in
            let column : (2 * x + p) / 2 ≡ x = omega arith in
            ap (λ z. cell (pos 0) z y (2 * x + p)) de ∙ cell-grid (pos 0) k (2 * k) _ y (2 * x + p) g (omega arith) ∙ rw (parity, column)

        term : (p : ℕ) → p < 2 → (i j : ℕ) → correction_at side (either first second p) (plane_in (cell (pos 0) d) p) i j ≡ term_at s t n p i j
        term p c i j =
            ap₂ (λ n m. correction_at n m (plane_in (cell (pos 0) d) p) i j) (sym of-side) (v p c)
            ∙ correction-cong s.side (plane_in (cell (pos 0) d) p) _ (λ y x g f. plane p c y x (inside g) (inside f)) _ i j

        next : (i l : ℕ) → part_at s t n i l +ℤ side_by_side (term_at s t n) i l ≡ part_at s t (n + 1) i l
        next i l = rw (add-one n, sum_z-suc)

  pub sum-paired : {n : ℕ} {sum : List (List ℤ)} → Summing k small s t n sum → sum ≡ grid k (2 * k) (cell (pos 0) sum)
  sum-paired {n} w = grid-of (pos 0) k (2 * k) (part_at s t n) w.is

  pub sum-small : 7 * small ≤ 2 ^ 40 → {n : ℕ} {sum : List (List ℤ)} → Summing k small s t n sum → TileMost (2 ^ 40) sum
  unfolding grid
  sum-small low {n} {sum} w =
      record {
        line = λ i. rw w.is
            (tab-each (LineMost (2 ^ 40)) [] (λ i. tab (2 * k) (part_at s t n i)) (record { at = λ l. omega arith }) k
            (λ u h. record { at = tab-each (λ z. nat_abs z ≤ 2 ^ 40) (pos 0) (part_at s t n u) (omega arith) (2 * k) (λ l g. le_trans (w.most u l h g) (le_trans (mul-le-mul_right small few) low)) }) i);
      }
    where
      few : n ≤ 7
      few = omega (arith, w.few, w.count)

  pub sum_done : {n : ℕ} {sum : List (List ℤ)} → Summing k small s t n sum → s.others ≤ n → Summed k small s t sum
  unfolding summed_at
  sum_done {n} {sum} w h =
      let e : n ≡ s.others = omega (arith, w.count) in
      record {
        is = w.is ∙ ap (λ m. grid k (2 * k) (part_at s t m)) e;
        most = λ i l g f. subst (λ m. nat_abs (part_at s t m i l) ≤ m * small) e (w.most i l g f);
      }
