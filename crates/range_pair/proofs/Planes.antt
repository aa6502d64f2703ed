-- Both planes of a pair: what the code hands on are their folded G, half of their inverse sums and their widths.
use Rattle.std.specs.Prelude.{◌≡◌, ◌+◌, ◌*◌, ◌/◌, ◌%◌, ◌^◌, ◌≤◌, ◌<◌, ◌+ℤ◌, ◌-ℤ◌, ◌*ℤ◌}
use Rattle.range_pair.specs.Prelude.{sym, ap, ap₂, subst, ◌∙◌, true, false, List, ℕ, arith, lit≤, T, ℤ, pos, nat_abs, Float, nan, binary64, of_int, to_signed, side16, correction_at, least_at, greatest_at, half_sum_of, half_basis_of, backward, half_sum, TileMost, fold_most, two_way, transposed, InDouble, plane_in, side_by_side, doubles, lines_in}
use native.Mathlib.Nat.{le_trans}
use lib.IntN.{+ℤ_idl}
use Rattle.algebra.specs.Order.{abs-sub}
use Rattle.algebra.specs.SumLaws.{sum_z-cong}
use Rattle.sequences.specs.Grid.{grid, cell, cell-grid, grid-ext}
use Rattle.floats.specs.Casts.{whole_back}
use Rattle.range.proofs.RangeLaws.{greatest-same, least-same}
use Rattle.tile_spectrum.specs.Lines.BackSizes.{backward-most}
use Rattle.tile_spectrum.specs.LineLaws.{backward-ext}
use Rattle.tile_pair.proofs.Corrections.{folded, folded-most, folded_whole}
use Rattle.tile_spatial.proofs.PairLaws.{table-most}
use Rattle.range_pair.specs.Factors.{factor_at, apart_most, place_apart, places_apart, distance_re, distance_im, pair_width, width_in, greatest_of, least_of, half_in, half_of}
use Rattle.range_pair.specs.declared.Noises.{Noises}
use Rattle.range_pair.specs.Added.{NoisesFit, noise_of, pair_plus, tile_end, pair_end, EndsAdded}
use Rattle.range_pair.proofs.Ends.{fold_at, half_at, fold_is, coded, greatest_is, least_is}

-- noise is any
pub few : {A : Type 0} → false ≡ true → A
few e = absurd (subst T (sym e) tt)

pub half-ext : (f g : ℕ → ℤ) → ((k : ℕ) → k < 16 → f k ≡ g k) → (n : ℕ) → half_sum f n ≡ half_sum g n
unfolding half_sum_of side16
half-ext f g h n = sum_z-cong 16 _ _ (λ k l. ap (λ z. z *ℤ half_basis_of side16 k n) (h k l))

-- a number of a pair in double
number_at : (f : ℕ → ℕ → ℤ) {t : List (List Float)} → t ≡ doubles f → (y l : ℕ) → y < 16 → l < 32 → nat_abs (f y l) ≤ 2 ^ 53 → to_signed 63 (cell nan t y l) ≡ f y l
unfolding doubles
number_at f e y l h k m =
    ap (λ t. to_signed 63 (cell nan t y l)) e ∙ ap (to_signed 63) (cell-grid nan 16 32 (λ y l. of_int binary64 (f y l)) y l h k) ∙ (whole_back (f y l) m).1

-- ---- G of both planes at one end

module _ (v : Noises) (fits : NoisesFit v) (d : ℕ → ℕ → ℤ) where
  abbrev pub gains : ℕ → ℕ → ℤ
  gains = side_by_side (λ p. transposed (folded v.first v.second (λ p. two_way (plane_in d p)) p))

  gains-most : (b l : ℕ) → nat_abs (gains b l) ≤ fold_most false
  gains-most b l = folded-most v.first v.second (λ p. two_way (plane_in d p)) false few fits.first_most fits.second_most (l % 2) (l / 2) b

  abbrev pub gains_whole : {g : List (List Float)} → g ≡ doubles gains → InDouble (fold_most false) g
  gains_whole e = folded_whole v.first v.second (λ p. two_way (plane_in d p)) false few fits.first_most fits.second_most e

  gain-is : (p x b : ℕ) → p < 2 → x < 16 → b < 16 → gains b (2 * x + p) ≡ fold_at (plane_in d p) (noise_of v p) x b
  gain-is p x b i j l =
      let parity : (2 * x + p) % 2 ≡ p = omega arith in
      let column : (2 * x + p) / 2 ≡ x = omega arith in
      ap₂ (λ p x. folded v.first v.second (λ p. two_way (plane_in d p)) p x b) parity column ∙ fold_is (plane_in d p) (noise_of v p) x b j l

  module _ {g : List (List Float)} (e : g ≡ doubles gains) where
    pub place_is : (p x b : ℕ) → p < 2 → x < 16 → b < 16 → to_signed 63 (cell nan g b (2 * x + p)) ≡ fold_at (plane_in d p) (noise_of v p) x b
    place_is p x b i j l = number_at gains e b (2 * x + p) l (omega arith) (le_trans (gains-most b (2 * x + p)) (lit≤ tt)) ∙ gain-is p x b i j l

  pub half_is : {t : List (List Float)} → t ≡ doubles (λ y l. backward (λ b. gains b l) y) → (y l : ℕ) → y < 16 → l < 32 → half_of t y l ≡ half_at (plane_in d (l % 2)) (noise_of v (l % 2)) y (l / 2)
  unfolding half_in cell
  half_is {t} e y l i j =
      half-ext _ _
      (λ x m. number_at (λ y l. backward (λ b. gains b l) y) e y (2 * x + l % 2) i (omega arith) (le_trans (backward-most (λ b. gains b (2 * x + l % 2)) (λ b. gains-most b (2 * x + l % 2)) y) (lit≤ tt))
      ∙ backward-ext _ _ (λ b n. gain-is (l % 2) x b (omega arith) m n) y) (l / 2)

-- ---- both ends

module _ (v w : Noises) (f : NoisesFit v) (g : NoisesFit w) (d : List (List ℤ)) {low high : List (List Float)} (p : low ≡ doubles (gains v f (cell (pos 0) d))) (q : high ≡ doubles (gains w g (cell (pos 0) d))) where
  apart-is : (k x i : ℕ) → k < 2 → x < 16 → i < 16 → lines_in (places_apart low high) k x i ≡ fold_at (plane_in (cell (pos 0) d) k) (noise_of v k) x i -ℤ fold_at (plane_in (cell (pos 0) d) k) (noise_of w k) x i
  apart-is k x i h j m =
      cell-grid (pos 0) 16 32 (λ b l. place_apart (cell nan low b l) (cell nan high b l)) i (2 * x + k) m (omega arith)
      ∙ ap₂ ◌-ℤ◌ (place_is v f (cell (pos 0) d) p k x i h j m) (place_is w g (cell (pos 0) d) q k x i h j m)

  module _ {widths : List (List ℕ)} (e : widths ≡ grid 8 16 (width_in low high)) {s t : List (List Float)}
      (o : s ≡ doubles (λ y l. backward (λ b. gains v f (cell (pos 0) d) b l) y)) (r : t ≡ doubles (λ y l. backward (λ b. gains w g (cell (pos 0) d) b l) y)) (y l : ℕ) (i : y < 16) (j : l < 32) where
    abbrev plane : ℕ → ℕ → ℤ
    plane = plane_in (cell (pos 0) d) (l % 2)

    abbrev lower : ℕ
    lower = noise_of v (l % 2)

    abbrev upper : ℕ
    upper = noise_of w (l % 2)

    width_is : cell 0 widths (y % 8) (l % 16) ≡ coded plane lower upper y (l / 2) i (omega arith) (places_apart low high) (l % 2) (omega arith) (λ x b m n. apart-is (l % 2) x b (omega arith) m n)
    unfolding width_in
    width_is =
        let lane : l % 16 ≡ 2 * (l / 2 % 8) + l % 2 = omega arith in
        ap (λ t. cell 0 t (y % 8) (l % 16)) e ∙ cell-grid 0 8 16 (width_in low high) (y % 8) (l % 16) (omega arith) (omega arith) ∙ ap (width_in low high (y % 8)) lane

    pub greatest-here : tile_end s t widths greatest_of y l ≡ pair_end d v w greatest_at y l
    greatest-here =
        ap₂ (λ m n. greatest_of m n (cell 0 widths (y % 8) (l % 16))) (half_is v f (cell (pos 0) d) o y l i j) (half_is w g (cell (pos 0) d) r y l i j)
        ∙ ap (greatest_of (half_at plane lower y (l / 2)) (half_at plane upper y (l / 2))) width_is
        ∙ greatest_is plane lower upper y (l / 2) i (omega arith) (places_apart low high) (l % 2) (omega arith) (λ x b m n. apart-is (l % 2) x b (omega arith) m n)

    pub least-here : tile_end s t widths least_of y l ≡ pair_end d v w least_at y l
    least-here =
        ap₂ (λ m n. least_of m n (cell 0 widths (y % 8) (l % 16))) (half_is v f (cell (pos 0) d) o y l i j) (half_is w g (cell (pos 0) d) r y l i j)
        ∙ ap (least_of (half_at plane lower y (l / 2)) (half_at plane upper y (l / 2))) width_is
        ∙ least_is plane lower upper y (l / 2) i (omega arith) (places_apart low high) (l % 2) (omega arith) (λ x b m n. apart-is (l % 2) x b (omega arith) m n)

-- ---- the tables from both folded G

pub apart-most : {low high : List (List Float)} → InDouble (fold_most false) low → InDouble (fold_most false) high → TileMost apart_most (places_apart low high)
apart-most {low} {high} v w =
    subst (TileMost apart_most)
    (sym (grid-ext 16 32 _ (λ b l. v.number b l -ℤ w.number b l)
    (λ b l h k. ap₂ ◌-ℤ◌ (number_at v.number v.is b l h k (le_trans (v.most b l) (lit≤ tt))) (number_at w.number w.is b l h k (le_trans (w.most b l) (lit≤ tt))))))
    (table-most apart_most (λ b l. v.number b l -ℤ w.number b l) (λ b l. omega (arith, abs-sub (v.number b l) (w.number b l), v.most b l, w.most b l)) 16 32)

pub widths-are : (low high : List (List Float)) {w : List (List ℤ)} {f re im : List (List ℕ)} → w ≡ places_apart low high → f ≡ grid 8 16 factor_at → re ≡ grid 16 18 (distance_re w) → im ≡ grid 16 18 (distance_im w) → grid 8 16 (pair_width f re im) ≡ grid 8 16 (width_in low high)
unfolding width_in
widths-are low high o e p q = rw (e, p, q, o)

-- ---- equal ends

module _ (d : List (List ℤ)) (v : Noises) (y l : ℕ) where
  abbrev pub pair_p : ℤ
  pair_p = correction_at side16 (noise_of v (l % 2)) (plane_in (cell (pos 0) d) (l % 2)) y (l / 2)

  pub greatest-equal : pair_p ≡ pair_end d v v greatest_at y l
  greatest-equal = sym (greatest-same side16 (noise_of v (l % 2)) (plane_in (cell (pos 0) d) (l % 2)) y (l / 2))

  pub least-equal : pair_p ≡ pair_end d v v least_at y l
  least-equal = sym (least-same side16 (noise_of v (l % 2)) (plane_in (cell (pos 0) d) (l % 2)) y (l / 2))

pub ends-equal : {d greatest greatest' least least' : List (List ℤ)} {v w : Noises} → v ≡ w → EndsAdded d v v greatest greatest' least least' → EndsAdded d v w greatest greatest' least least'
ends-equal {d} {greatest} {greatest'} {least} {least'} {v} e = subst (λ w. EndsAdded d v w greatest greatest' least least') e

-- ---- P of both planes, added to sums and to zeros

pub plus-ext : (s : List (List ℤ)) (p q : ℕ → ℕ → ℤ) → ((y l : ℕ) → y < 16 → l < 32 → p y l ≡ q y l) → pair_plus s p ≡ pair_plus s q
plus-ext s p q h = grid-ext 16 32 _ _ (λ y l i j. ap (λ z. cell (pos 0) s y l +ℤ z) (h y l i j))

module _ (f : ℕ → ℕ → ℤ) {p : List (List ℤ)} (e : p ≡ pair_plus (grid 16 32 (λ y l. pos 0)) f) where
  pub from-zeros : p ≡ grid 16 32 f
  from-zeros = e ∙ grid-ext 16 32 _ f (λ y l h k. ap (λ z. z +ℤ f y l) (cell-grid (pos 0) 16 32 (λ y l. pos 0) y l h k) ∙ +ℤ_idl (f y l))

  pub added-most : (b : ℕ) → ((y l : ℕ) → nat_abs (f y l) ≤ b) → TileMost b p
  added-most b m = subst (TileMost b) (sym from-zeros) (table-most b f m 16 32)

  pub added_is : (s : List (List ℤ)) → pair_plus s (cell (pos 0) p) ≡ pair_plus s f
  added_is s = plus-ext s _ _ (λ y l h k. ap (λ t. cell (pos 0) t y l) from-zeros ∙ cell-grid (pos 0) 16 32 f y l h k)
