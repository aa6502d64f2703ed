-- The tables of the code: factors, distances and widths, their entries and their sizes.
use Rattle.std.specs.Prelude.{◌≡◌, ◌+◌, ◌*◌, ◌-◌, ◌/◌, ◌%◌, ◌≤◌, ◌<◌}
use Rattle.range_pair.specs.Prelude.{sym, ap₂, subst, ◌∙◌, cond, List, [], ℕ, arith, lit<, eqb, ltb, get_or, ℤ, pos, neg_ℤ, nat_abs, tab, TileMost, side16, real_of, imaginary_of, beside, tile_re, tile_im, beside_of, imaginary_part, real_part, tile_im_of, tile_re_of, lines_in}
use Prim.Native.Nat.{zero-le}
use native.Mathlib.Nat.{mod-lt, mul-le-mul, mul-le-mul_left, mul-le-mul_right}
use Rattle.algebra.specs.Order.{abs-add, abs-sub, abs_neg}
use Rattle.algebra.specs.SumLaws.{sum_n-bound}
use Rattle.sequences.specs.TabLaws.{tab-every}
use Rattle.sequences.specs.Grid.{grid, cell, cell-grid}
use Rattle.tile_spectrum.specs.Lines.Tiles.{cells-most}
use Rattle.tile_spectrum.specs.Apart.{cond_cases, apart-cases}
use Rattle.range_pair.specs.Factors.{factor_re, factor_im, factor_most, factor_at, FactoredTile, apart_most, times_at, distance_re, distance_im, distance_most, Distant, DistantTile, line_width, pair_width, bin_width_most, line_width_most, width_most, WidthLine, WidthTile}
use Rattle.range_pair.specs.FactorLaws.{factor-most}

-- ---- factors

even_place : (i j : ℕ) → factor_at i (2 * j) ≡ factor_re i j
even_place i j =
    let a : (2 * j) % 2 ≡ 0 = omega arith in
    let b : (2 * j) / 2 ≡ j = omega arith in
    ap₂ (λ (m k : ℕ). cond (eqb m 0) (factor_re i k) (factor_im i k)) a b

odd_place : (i j : ℕ) → factor_at i (2 * j + 1) ≡ factor_im i j
odd_place i j =
    let a : (2 * j + 1) % 2 ≡ 1 = omega arith in
    let b : (2 * j + 1) / 2 ≡ j = omega arith in
    ap₂ (λ (m k : ℕ). cond (eqb m 0) (factor_re i k) (factor_im i k)) a b

module _ (i j : ℕ) (h : i < 8) (k : j < 8) where
  pub entry-re : get_or (get_or (grid 8 16 factor_at) i []) (2 * j) 0 ≡ factor_re i j
  unfolding cell
  entry-re = cell-grid 0 8 16 factor_at i (2 * j) h (omega arith) ∙ even_place i j

  pub entry-im : get_or (get_or (grid 8 16 factor_at) i []) (2 * j + 1) 0 ≡ factor_im i j
  unfolding cell
  entry-im = cell-grid 0 8 16 factor_at i (2 * j + 1) h (omega arith) ∙ odd_place i j

pub factored : {f : List (List ℕ)} → f ≡ grid 8 16 factor_at → FactoredTile f
factored e =
    subst FactoredTile (sym e)
    (record { line = λ i h. record { at = λ j k. rw (entry-re i j h k, entry-im i j h k) (factor-most i j (omega arith) (omega arith)) } })

-- ---- distances

module _ {b : ℕ} (t : ℕ → ℕ → ℤ) (m : (k i : ℕ) → nat_abs (t k i) ≤ b) where
  real-most : (z : ℕ → ℤ) → ((i : ℕ) → nat_abs (z i) ≤ b) → (u : ℕ) → nat_abs (real_of z u) ≤ b
  unfolding real_part side16
  real-most z n u = cond_cases (λ z. nat_abs z ≤ b) (ltb u 9) (n u) (n (16 - u))

  imaginary-most : (z : ℕ → ℤ) → ((i : ℕ) → nat_abs (z i) ≤ b) → (u : ℕ) → nat_abs (imaginary_of z u) ≤ b
  unfolding imaginary_part side16
  imaginary-most z n u =
      apart-cases u (pos 0) (cond (ltb u 9) (z (8 + u)) (neg_ℤ (z (24 - u)))) (λ z. nat_abs z ≤ b) zero-le
      (cond_cases (λ z. nat_abs z ≤ b) (ltb u 9) (n (8 + u)) (rw (abs_neg (z (24 - u))) (n (24 - u))))

  beside-most : (v i : ℕ) → nat_abs (beside t v i) ≤ b
  unfolding beside_of side16
  beside-most v i = apart-cases v (λ b. pos 0) (t (8 + v)) (λ z. nat_abs (z i) ≤ b) zero-le (m (8 + v) i)

  pub tile-re-most : (u v : ℕ) → nat_abs (tile_re t u v) ≤ 2 * b
  unfolding tile_re_of side16
  tile-re-most u v =
      omega (arith, abs-sub (real_of (t v) u) (imaginary_of (beside t v) u), real-most (t v) (m v) u, imaginary-most (beside t v) (beside-most v) u)

  pub tile-im-most : (u v : ℕ) → nat_abs (tile_im t u v) ≤ 2 * b
  unfolding tile_im_of side16
  tile-im-most u v =
      omega (arith, abs-add (imaginary_of (t v) u) (real_of (beside t v) u), imaginary-most (t v) (m v) u, real-most (beside t v) (beside-most v) u)

pub times-most : (u v : ℕ) → times_at u v ≤ 4
unfolding times_at
times-most u v = mul-le-mul (apart-cases u 2 1 (λ n. n ≤ 2) (omega arith) (omega arith)) (apart-cases v 1 2 (λ n. n ≤ 2) (omega arith) (omega arith))

module _ {w : List (List ℤ)} (m : TileMost apart_most w) where
  lines-most : (p k b : ℕ) → nat_abs (lines_in w p k b) ≤ apart_most
  lines-most p k b = cells-most m b (2 * k + p)

  pub lines-re-most : (p u v : ℕ) → nat_abs (tile_re (lines_in w p) u v) ≤ 2 * apart_most
  lines-re-most p = tile-re-most (lines_in w p) (lines-most p)

  pub lines-im-most : (p u v : ℕ) → nat_abs (tile_im (lines_in w p) u v) ≤ 2 * apart_most
  lines-im-most p = tile-im-most (lines_in w p) (lines-most p)

  pub distance-re-most : (u l : ℕ) → distance_re w u l ≤ distance_most
  unfolding distance_re
  distance-re-most u l = mul-le-mul (times-most u (l / 2)) (lines-re-most (l % 2) u (l / 2))

  pub distance-im-most : (u l : ℕ) → distance_im w u l ≤ distance_most
  unfolding distance_im
  distance-im-most u l = mul-le-mul (times-most u (l / 2)) (lines-im-most (l % 2) u (l / 2))

pub distant : (f : ℕ → ℕ → ℕ) → ((u l : ℕ) → f u l ≤ distance_most) → {a : List (List ℕ)} → a ≡ grid 16 18 f → DistantTile a
unfolding grid
distant f m e =
    subst DistantTile (sym e)
    (record { line = tab-every Distant [] (λ u. tab 18 (f u)) (record { at = λ l. zero-le }) (λ u. record { at = tab-every (λ z. z ≤ distance_most) 0 (f u) zero-le (m u) 18 }) 16 })

-- ---- widths

pub both_most : (f a g b : ℕ) → f + g ≤ factor_most → a ≤ distance_most → b ≤ distance_most → f * a + g * b ≤ bin_width_most
both_most f a g b h k l = omega (arith, mul-le-mul_left f k, mul-le-mul_left g l, mul-le-mul_right distance_most h)

pub pair-width-most : {f re im : List (List ℕ)} → FactoredTile f → DistantTile re → DistantTile im → (y l : ℕ) → pair_width f re im y l ≤ width_most
unfolding pair_width line_width
pair-width-most m n o y l =
    sum_n-bound 16 line_width_most _ (λ u h. sum_n-bound 9 bin_width_most _ (λ v k.
    both_most _ _ _ _ ((m.line ((u * y) % 8) (mod-lt (u * y) (lit< tt))).at ((v * (l / 2)) % 8) (mod-lt (v * (l / 2)) (lit< tt))) ((n.line u).at (2 * v + l % 2)) ((o.line u).at (2 * v + l % 2))))

pub width-tile : (f : ℕ → ℕ → ℕ) → ((y l : ℕ) → f y l ≤ width_most) → {w : List (List ℕ)} → w ≡ grid 8 16 f → WidthTile w
unfolding grid
width-tile f m e =
    subst WidthTile (sym e)
    (record { line = tab-every WidthLine [] (λ y. tab 16 (f y)) (record { at = λ l. zero-le }) (λ y. record { at = tab-every (λ z. z ≤ width_most) 0 (f y) zero-le (m y) 16 }) 8 })
