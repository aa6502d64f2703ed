-- The squares of a pair's rows, added up place by place and then over the places of a plane, are those of the plane's tile: so are their roots.
use Rattle.std.specs.Prelude.{◌≡◌, ◌+◌, ◌*◌, ◌%◌, ◌≤◌, ◌<◌}
use Rattle.tile_root.specs.Prelude.{ap, ◌∙◌, cond, List, [], ℕ, arith, lit≤, eqb, get_or, sum_n, tab, intensity, squared, sum_of_squares, tile_root, whole_root}
use Prim.Native.Nat.{zero-le}
use native.Mathlib.Nat.{le_trans, mul-le-mul, mul-le-mul_right}
use native.Mathlib.Numerals.{add-one}
use Rattle.std.specs.Prelude.{replicate}
use Rattle.std.proofs.Common.{sym, ext_get_or}
use Rattle.std.proofs.lemmas.List.{length-replicate, get_or-replicate}
use Rattle.algebra.specs.SumLaws.{sum_n-cong, sum_n-bound, sum_n-exchange}
use Rattle.sequences.specs.TabLaws.{length-tab, tab-every, get_d-tab}
use Rattle.sequences.specs.Grid.{cell, tab-ext}
use Rattle.tile_root.specs.Range.{SamplesFit, LanesFit}
use Rattle.tile_root.specs.Lanes.{lane_black, lanes}

-- one square
square-most : (black sample : ℕ) → sample ≤ 4095 → squared black sample ≤ 16769025
square-most black sample h = let l : intensity black sample ≤ 4095 = omega arith in le_trans (mul-le-mul l l) (lit≤ tt)

module _ (w : ℕ) (black : List ℕ) (tile : List (List ℕ)) where
  pub lanes_fit : SamplesFit tile → (n m : ℕ) {sum : List ℕ} → n ≤ m → sum ≡ lanes w n black tile → LanesFit w m sum
  unfolding lanes
  lanes_fit h n m k e = rw e (record {
    long = length-tab _ w;
    most = tab-every (λ s. s ≤ m * 16769025) 0 _ zero-le (λ l. le_trans (sum_n-bound n 16769025 _ (λ i _. square-most (get_or black l 0) (cell 0 tile i l) (h.most i l))) (mul-le-mul_right 16769025 k)) w;
  })

  -- no row yet
  pub lanes-none : replicate w 0 ≡ lanes w 0 black tile
  unfolding lanes sum_n
  lanes-none = ext_get_or 0 _ _ (length-replicate {A = ℕ} w 0 ∙ sym (length-tab (λ l. 0) w)) (λ i h. let k : i < w = omega (arith, length-replicate {A = ℕ} w 0) in get_or-replicate {A = ℕ} w i 0 0 k ∙ sym (get_d-tab (λ l. 0) 0 w i k))

  -- one row more
  pub lanes-turn : (n : ℕ) {sum : List ℕ} → sum ≡ lanes w n black tile → tab w (λ l. get_or sum l 0 + squared (get_or black l 0) (get_or (get_or tile n []) l 0)) ≡ lanes w (n + 1) black tile
  unfolding lanes cell sum_n
  lanes-turn n e =
      tab-ext w _ _ (λ l h. ap (λ s. s + squared (get_or black l 0) (get_or (get_or tile n []) l 0)) (ap (λ s. get_or s l 0) e ∙ get_d-tab _ 0 w l h) ∙ more l)
    where
      more : (l : ℕ) → let f : ℕ → ℕ = λ i. squared (get_or black l 0) (get_or (get_or tile i []) l 0) in sum_n n f + f n ≡ sum_n (n + 1) f
      more l = rw (add-one n)

-- the places of plane p of a pair of side n together
module _ (n first second : ℕ) (tile : List (List ℕ)) (p : ℕ) (h : p < 2) where
  level : (j : ℕ) → lane_black first second (2 * j + p) ≡ lane_black first second p
  unfolding lane_black
  level j = let e : (2 * j + p) % 2 ≡ p % 2 = omega arith in ap (λ r. cond (eqb r 0) first second) e

  plane-sum : sum_n n (λ j. get_or (lanes (2 * n) n (tab (2 * n) (lane_black first second)) tile) (2 * j + p) 0) ≡ sum_of_squares n (lane_black first second p) (λ i j. cell 0 tile i (2 * j + p))
  unfolding lanes sum_of_squares
  plane-sum =
      sum_n-cong n _ _ (λ j k. get_d-tab _ 0 (2 * n) (2 * j + p) (omega arith) ∙ ap (λ b. sum_n n (λ i. squared b (cell 0 tile i (2 * j + p)))) (get_d-tab _ 0 (2 * n) (2 * j + p) (omega arith) ∙ level j))
      ∙ sum_n-exchange n n (λ j i. squared (lane_black first second p) (cell 0 tile i (2 * j + p)))

  pub root-of-plane : {black sum : List ℕ} → black ≡ tab (2 * n) (lane_black first second) → sum ≡ lanes (2 * n) n black tile →
      whole_root (sum_n n (λ j. get_or sum (2 * j + p) 0)) ≡ tile_root n (lane_black first second p) (λ i j. cell 0 tile i (2 * j + p))
  unfolding tile_root
  root-of-plane e d = ap (λ s. whole_root (sum_n n (λ j. get_or s (2 * j + p) 0))) (d ∙ ap (λ b. lanes (2 * n) n b tile) e) ∙ ap whole_root plane-sum
