-- Two lines of any side side by side, number n of line p at 2n + p, folded in halves: the sums and the differences of numbers half a line apart, and the places
-- of each line. And a loop that stores them by fours: places 4k .. 4k + 3, from the even and the odd places of both.
use Rattle.std.specs.Prelude.{◌≡◌, ◌∷◌, ◌+◌, ◌*◌, ◌/◌, ◌%◌, ◌<◌, ◌+ℤ◌, ◌-ℤ◌}
use Rattle.tile_spectrum.specs.Lines.Prelude.{refl, ap, ◌∙◌, List, [], ℕ, zero, suc, arith, get_or, set, ℤ, Float, nan, binary64, of_int, tab, Side, Rules}
use Rattle.sequences.specs.TabLaws.{Filled, fill-turn, get_d-tab}
use Rattle.sequences.specs.Grid.{tab-ext}
use Rattle.tile_spectrum.specs.Lines.Halfcomplex.{halfcomplex_of}
use Rattle.tile_spectrum.specs.Lines.Fold.{sum_of, difference_of, folded_of}
use Rattle.tile_spectrum.specs.Lines.SideFolds.{even-folded, odd-folded, folds-ext}
use Rattle.tile_spectrum.specs.Lines.Doubles.{double_line}

-- ---- the places of line p

module _ {s : Side} (r : Rules s) (z : ℕ → ℤ) (p i : ℕ) where
  far : (n : ℕ) → z (2 * n + p + 2 * s.half) ≡ z (2 * (n + s.half) + p)
  far n = ap z (omega arith)

  pub pair-even : folded_of s (λ n. z (2 * n + p) +ℤ z (2 * n + p + 2 * s.half)) (2 * i) ≡ halfcomplex_of s (λ n. z (2 * n + p)) (2 * i)
  unfolding sum_of
  pair-even =
      folds-ext s _ (sum_of s (λ n. z (2 * n + p))) (λ n l. ap (λ w. z (2 * n + p) +ℤ w) (far n)) (2 * i) ∙ even-folded r (λ n. z (2 * n + p)) i

  pub pair-odd : folded_of s (λ n. z (2 * n + p) -ℤ z (2 * n + p + 2 * s.half)) (2 * i + 1) ≡ halfcomplex_of s (λ n. z (2 * n + p)) (2 * i + 1)
  unfolding difference_of
  pair-odd =
      folds-ext s _ (difference_of s (λ n. z (2 * n + p))) (λ n l. ap (λ w. z (2 * n + p) -ℤ w) (far n)) (2 * i + 1) ∙ odd-folded r (λ n. z (2 * n + p)) i

-- ---- stored by fours

-- place l of two lines, from their even places e, e' and their odd places o, o'
abbrev pub by_fours : (e e' o o' : List Float) → ℕ → Float
by_fours e e' o o' l = get_or (get_or (e ∷ e' ∷ o ∷ o' ∷ []) (l % 4) []) (l / 4) nan

module _ (e e' o o' : List Float) {k : ℕ} where
  place_at : (j i : ℕ) → i % 4 ≡ j → i / 4 ≡ k → get_or (get_or (e ∷ e' ∷ o ∷ o' ∷ []) j []) k nan ≡ by_fours e e' o o' i
  place_at j i p q = rw (p, q)

  pub fours-turn : (n : ℕ) {l r : List Float} → Filled (by_fours e e' o o') (4 * n) (4 * k) l r → k < n → Filled (by_fours e e' o o') (4 * n) (4 * (k + 1)) l (set (set (set (set r (4 * k) (get_or e k nan)) (4 * k + 1) (get_or e' k nan)) (4 * k + 2) (get_or o k nan)) (4 * k + 3) (get_or o' k nan))
  fours-turn n w h =
      let w1 = fill-turn w (omega arith) (place_at 0 (4 * k) (omega arith) (omega arith)) in
      let w2 = fill-turn w1 (omega arith) (place_at 1 (4 * k + 1) (omega arith) (omega arith)) in
      let s2 : 4 * k + 1 + 1 ≡ 4 * k + 2 = omega arith in
      let w3 = fill-turn (rw s2 at w2) (omega arith) (place_at 2 (4 * k + 2) (omega arith) (omega arith)) in
      let s3 : 4 * k + 2 + 1 ≡ 4 * k + 3 = omega arith in
      let w4 = fill-turn (rw s3 at w3) (omega arith) (place_at 3 (4 * k + 3) (omega arith) (omega arith)) in
      let s4 : 4 * k + 3 + 1 ≡ 4 * (k + 1) = omega arith in
      rw s4 at w4

-- the lines f 0 and f 1, of 2·n places each
pub fours-are : (n : ℕ) {e e' o o' : List Float} (f : ℕ → ℕ → ℤ) → e ≡ double_line n (λ i. f 0 (2 * i)) → e' ≡ double_line n (λ i. f 1 (2 * i)) → o ≡ double_line n (λ i. f 0 (2 * i + 1)) → o' ≡ double_line n (λ i. f 1 (2 * i + 1)) → tab (4 * n) (by_fours e e' o o') ≡ double_line (4 * n) (λ l. f (l % 2) (l / 2))
fours-are n {e} {e'} {o} {o'} f p p' q q' = tab-ext (4 * n) _ _ (λ l h. at l (l % 4) (l / 4) h refl refl)
  where
    number : {x : List Float} (g : ℕ → ℤ) → x ≡ double_line n g → (j : ℕ) → j < n → get_or x j nan ≡ of_int binary64 (g j)
    number g e j h = ap (λ x. get_or x j nan) e ∙ get_d-tab (λ i. of_int binary64 (g i)) nan n j h

    here : (l u v : ℕ) → l % 2 ≡ u → l / 2 ≡ v → of_int binary64 (f u v) ≡ of_int binary64 (f (l % 2) (l / 2))
    here l u v a b = rw (a, b)

    at : (l c j : ℕ) → l < 4 * n → l % 4 ≡ c → l / 4 ≡ j → get_or (get_or (e ∷ e' ∷ o ∷ o' ∷ []) c []) j nan ≡ of_int binary64 (f (l % 2) (l / 2))
    at l zero j h a b = number _ p j (omega arith) ∙ here l 0 (2 * j) (omega arith) (omega arith)
    at l (suc zero) j h a b = number _ p' j (omega arith) ∙ here l 1 (2 * j) (omega arith) (omega arith)
    at l (suc (suc zero)) j h a b = number _ q j (omega arith) ∙ here l 0 (2 * j + 1) (omega arith) (omega arith)
    at l (suc (suc (suc zero))) j h a b = number _ q' j (omega arith) ∙ here l 1 (2 * j + 1) (omega arith) (omega arith)
    at l (suc (suc (suc (suc c)))) j h a b = absurd (omega arith)
