-- Two planes side by side: their places, the step on their bins, its size, and P' of both.
use Rattle.std.specs.Prelude.{◌≡◌, ◌+◌, ◌*◌, ◌/◌, ◌%◌, ◌^◌, ◌≤◌, ◌<◌, ◌+ℤ◌, ◌*ℤ◌}
use Rattle.tile_spatial.specs.Prelude.{sym, ap, ap₂, subst, ◌∙◌, false, List, [], ℕ, arith, lit≤, eqb, get_or, ℤ, pos, nat_abs, Float, nan, binary64, of_int, away, tab, side16, bin_re, bin_im, copy_filtered, frequency, LineMost, TileMost, difference_most, fold_most, spatial_most, spatial_gain_most, spatial_correction_most, two_way, transposed, spread, back_sum, tile_re, tile_im, InDouble, plane_in, side_by_side, either, doubles}
use Prim.Native.Nat.{zero-le}
use native.Mathlib.Nat.{le_trans}
use lib.IntN.{+ℤ_idl}
use Rattle.algebra.specs.Order.{abs-add, abs-mul}
use Rattle.sequences.specs.TabLaws.{tab-every}
use Rattle.sequences.specs.Grid.{grid, cell, cell-grid, grid-ext}
use Rattle.noise.specs.SpatialLaws.{frequency-most, frequency-low}
use Rattle.tile_spectrum.specs.Lines.Tiles.{line-most, cells-most}
use Rattle.tile_spectrum.specs.Apart.{cond_cases}
use Rattle.tile_spectrum.specs.FoldSizes.{spread-most}
use Rattle.tile_spectrum.specs.PlaceLaws.{spread-ext, back-ext}
use Rattle.tile_spectrum.specs.SizeLaws.{copy-gain-most}
use Rattle.tile_spectrum.specs.Turns.{turns16}
use Rattle.tile_spectrum.specs.SpectrumLaws.{bin-re, bin-im}
use Rattle.tile_spatial.specs.Filtering.{bin_noise, step_at, NoiseLine, NoisesMost}
use Rattle.tile_spatial.specs.FilteringLaws.{step-most}
use Rattle.tile_spatial.specs.Steps.{high_of, low_of, place_most, copy_place_most, place_of, lines_in, lane_re, lane_im, pair_re, pair_im}
use Rattle.tile_spatial.proofs.SplitLaws.{split, two-way-most, two-way-sum}
use Rattle.tile_spatial.proofs.PlaceParts.{place_is}
use Rattle.tile_spatial.proofs.LinePlaces.{tile-re-ext, tile-im-ext}
use Rattle.tile_spatial.proofs.StepLaws.{steps_back}

-- a table of small numbers
pub table-most : (b : ℕ) (f : ℕ → ℕ → ℤ) → ((k l : ℕ) → nat_abs (f k l) ≤ b) → (m n : ℕ) → TileMost b (grid m n f)
unfolding grid
table-most b f h m n = record { line = tab-every (LineMost b) [] (λ k. tab n (f k)) (record { at = λ i. zero-le }) (λ k. line-most b (f k) (h k) n) m }

-- a place of a pair is one of its planes'
place-of : {A : Type 0} (z : A) (f : ℕ → ℕ → ℕ → A) {t : List (List A)} (n : ℕ) → t ≡ grid n 32 (side_by_side f) → (p : ℕ) → p < 2 → (y x : ℕ) → y < n → x < 16 → plane_in (cell z t) p y x ≡ f p y x
place-of z f n e p c y x h k =
    let parity : (2 * x + p) % 2 ≡ p = omega arith in
    let column : (2 * x + p) / 2 ≡ x = omega arith in
    ap (λ t. cell z t y (2 * x + p)) e ∙ cell-grid z n 32 (side_by_side f) y (2 * x + p) h (omega arith) ∙ rw (parity, column)

-- ---- the places

abbrev pub transforms : (d : List (List ℤ)) → ℕ → ℕ → ℤ
transforms d = side_by_side (λ p. transposed (two_way (plane_in (cell (pos 0) d) p)))

pub transform-most : {d : List (List ℤ)} → TileMost difference_most d → (b l : ℕ) → nat_abs (transforms d b l) ≤ place_most
transform-most {d} m b l = two-way-most (plane_in (cell (pos 0) d) (l % 2)) (λ y x. cells-most m y (2 * x + l % 2)) (l / 2) b

abbrev pub in-double : {d : List (List ℤ)} → TileMost difference_most d → {t : List (List Float)} → t ≡ doubles (transforms d) → InDouble place_most t
in-double {d} m e = record { number = transforms d; most = transform-most m; is = e }

module _ (c : List (List ℤ)) {high low : List (List ℤ)} (p : high ≡ grid 16 32 (λ y l. high_of (cell (pos 0) c y l))) (q : low ≡ grid 16 32 (λ y l. low_of (cell (pos 0) c y l))) where
  parts_are : (l y x : ℕ) → y < 16 → x < 16 → plane_in (cell (pos 0) c) (l % 2) y x ≡ pos 4096 *ℤ plane_in (cell (pos 0) high) (l % 2) y x +ℤ plane_in (cell (pos 0) low) (l % 2) y x
  parts_are l y x h k =
      split (cell (pos 0) c y (2 * x + l % 2))
      ∙ sym (ap₂ (λ a b. pos 4096 *ℤ a +ℤ b) (ap (λ t. cell (pos 0) t y (2 * x + l % 2)) p ∙ cell-grid (pos 0) 16 32 _ y (2 * x + l % 2) h (omega arith)) (ap (λ t. cell (pos 0) t y (2 * x + l % 2)) q ∙ cell-grid (pos 0) 16 32 _ y (2 * x + l % 2) h (omega arith)))

  module _ (m : TileMost difference_most high) (n : TileMost difference_most low) {a b : List (List Float)} (d : a ≡ doubles (transforms high)) (e : b ≡ doubles (transforms low)) where
    abbrev sum : ℕ → ℕ → ℤ
    sum y l = pos 4096 *ℤ transforms high y l +ℤ transforms low y l

    sums_are : grid 16 32 (λ y l. place_of (cell nan a y l) (cell nan b y l)) ≡ grid 16 32 sum
    unfolding doubles
    sums_are =
        grid-ext 16 32 _ _
        (λ y l h k. ap₂ place_of (ap (λ t. cell nan t y l) d ∙ cell-grid nan 16 32 (λ y l. of_int binary64 (transforms high y l)) y l h k) (ap (λ t. cell nan t y l) e ∙ cell-grid nan 16 32 (λ y l. of_int binary64 (transforms low y l)) y l h k)
        ∙ place_is (transforms high y l) (transforms low y l) (transform-most m y l) (transform-most n y l))

    pub places-are : grid 16 32 (λ y l. place_of (cell nan a y l) (cell nan b y l)) ≡ grid 16 32 (transforms c)
    places-are =
        sums_are
        ∙ grid-ext 16 32 _ _ (λ y l h k. sym (two-way-sum (plane_in (cell (pos 0) c) (l % 2)) (plane_in (cell (pos 0) high) (l % 2)) (plane_in (cell (pos 0) low) (l % 2)) (parts_are l) (l / 2) y))

    sum-most : (y l : ℕ) → nat_abs (sum y l) ≤ copy_place_most
    sum-most y l =
        omega (arith, abs-add (pos 4096 *ℤ transforms high y l) (transforms low y l), abs-mul (pos 4096) (transforms high y l), transform-most m y l, transform-most n y l)

    pub places_most : TileMost copy_place_most (grid 16 32 (λ y l. place_of (cell nan a y l) (cell nan b y l)))
    places_most = subst (TileMost copy_place_most) (sym sums_are) (table-most copy_place_most sum sum-most 16 32)

-- ---- the step

filtered-most : (noise : ℕ) → noise ≤ spatial_most → (b c : ℤ) → nat_abs (copy_filtered side16 noise b c) ≤ spatial_gain_most
unfolding copy_filtered
filtered-most noise h b c = copy-gain-most noise h _ _

abbrev pub spreads : (noises : List (List ℕ)) (w : List (List ℤ)) → ℕ → ℕ → ℤ
spreads noises w = side_by_side (λ p. transposed (spread (pair_re noises w p) (pair_im noises w p)))

module _ {noises : List (List ℕ)} (m : NoisesMost spatial_most noises) (w : List (List ℤ)) where
  number-most : (u l : ℕ) → cell 0 noises u l ≤ spatial_most
  unfolding cell
  number-most u l = (m.line u).at l

  pub lane-re-most : (u l : ℕ) → nat_abs (lane_re (get_or noises (frequency u) []) w u l) ≤ spatial_gain_most
  unfolding lane_re
  lane-re-most u l = filtered-most _ ((m.line (frequency u)).at l) _ _

  pub lane-im-most : (u l : ℕ) → nat_abs (lane_im (get_or noises (frequency u) []) w u l) ≤ spatial_gain_most
  unfolding lane_im
  lane-im-most u l = filtered-most _ ((m.line (frequency u)).at l) _ _

  pub pair-re-most : (p u v : ℕ) → nat_abs (pair_re noises w p u v) ≤ spatial_gain_most
  unfolding pair_re
  pair-re-most p u v = filtered-most _ (number-most (frequency u) (2 * v + p)) _ _

  pub pair-im-most : (p u v : ℕ) → nat_abs (pair_im noises w p u v) ≤ spatial_gain_most
  unfolding pair_im
  pair-im-most p u v = filtered-most _ (number-most (frequency u) (2 * v + p)) _ _

  abbrev pub step_whole : {g : List (List Float)} → g ≡ doubles (spreads noises w) → InDouble (fold_most false) g
  step_whole e = record {
    number = spreads noises w;
    most = λ y l. le_trans (spread-most spatial_gain_most (pair_re noises w (l % 2)) (pair_im noises w (l % 2)) (pair-re-most (l % 2)) (pair-im-most (l % 2)) (l / 2) y) (lit≤ tt);
    is = e;
  }

module _ (noises : List (List ℕ)) (w : List (List ℤ)) where
  -- a bin of plane p is one of its lanes
  module _ {g : List (List ℤ)} (f : List ℕ → List (List ℤ) → ℕ → ℕ → ℤ) (e : g ≡ grid 16 18 (λ u l. f (get_or noises (frequency u) []) w u l)) where
    pub lane-at : (p : ℕ) → p < 2 → (u v : ℕ) → u < 16 → v < 9 → plane_in (cell (pos 0) g) p u v ≡ f (get_or noises (frequency u) []) w u (2 * v + p)
    lane-at p c u v h k = ap (λ t. cell (pos 0) t u (2 * v + p)) e ∙ cell-grid (pos 0) 16 18 _ u (2 * v + p) h (omega arith)

  pub re-at : (p u v : ℕ) → p < 2 → lane_re (get_or noises (frequency u) []) w u (2 * v + p) ≡ pair_re noises w p u v
  unfolding lane_re pair_re cell
  re-at p u v c =
      let parity : (2 * v + p) % 2 ≡ p = omega arith in
      let column : (2 * v + p) / 2 ≡ v = omega arith in
      rw (parity, column)

  pub im-at : (p u v : ℕ) → p < 2 → lane_im (get_or noises (frequency u) []) w u (2 * v + p) ≡ pair_im noises w p u v
  unfolding lane_im pair_im cell
  im-at p u v c =
      let parity : (2 * v + p) % 2 ≡ p = omega arith in
      let column : (2 * v + p) / 2 ≡ v = omega arith in
      rw (parity, column)

  pub spreads-are : {g h : List (List ℤ)} → g ≡ grid 16 18 (λ u l. lane_re (get_or noises (frequency u) []) w u l) → h ≡ grid 16 18 (λ u l. lane_im (get_or noises (frequency u) []) w u l) → doubles (side_by_side (λ p. transposed (spread (plane_in (cell (pos 0) g) p) (plane_in (cell (pos 0) h) p)))) ≡ doubles (spreads noises w)
  unfolding doubles side16
  spreads-are {g} {h} d e =
      grid-ext 16 32 _ _ (λ y l i j. ap (of_int binary64)
      (spread-ext turns16 (plane_in (cell (pos 0) g) (l % 2)) (plane_in (cell (pos 0) h) (l % 2)) (pair_re noises w (l % 2)) (pair_im noises w (l % 2))
      (λ u v n k. lane-at lane_re d (l % 2) (omega arith) u v n k ∙ re-at (l % 2) u v (omega arith)) (λ u v n k. lane-at lane_im e (l % 2) (omega arith) u v n k ∙ im-at (l % 2) u v (omega arith)) (l / 2) y (omega arith) i))

-- ---- the noise numbers

module _ (first second : List (List ℕ)) {noises : List (List ℕ)} (e : noises ≡ grid 9 18 (λ u l. cell 0 (either first second (l % 2)) u (l / 2))) where
  abbrev numbers : (p u v : ℕ) → ℕ
  numbers p = cell 0 (either first second p)

  lanes_at : (p : ℕ) → p < 2 → (u v : ℕ) → u < 16 → v < 9 → cell 0 noises (frequency u) (2 * v + p) ≡ bin_noise (numbers p) u v
  lanes_at p c u v h k =
      let parity : (2 * v + p) % 2 ≡ p = omega arith in
      let column : (2 * v + p) / 2 ≡ v = omega arith in
      ap (λ t. cell 0 t (frequency u) (2 * v + p)) e ∙ cell-grid 0 9 18 _ (frequency u) (2 * v + p) (frequency-most u) (omega arith)
      ∙ rw (parity, column) (ap (numbers p (frequency u)) (sym (frequency-low v k)))

  module _ (a : NoisesMost spatial_most first) (b : NoisesMost spatial_most second) where
    pub numbers-most : (p u v : ℕ) → numbers p u v ≤ spatial_most
    unfolding cell
    numbers-most p u v = cond_cases (λ t. cell 0 t u v ≤ spatial_most) (eqb p 0) ((a.line u).at v) ((b.line u).at v)

    pub lanes-most : NoisesMost spatial_most noises
    unfolding grid
    lanes-most =
        subst (NoisesMost spatial_most) (sym e)
        (record {
          line =
              tab-every (NoiseLine spatial_most) [] (λ u. tab 18 (λ l. numbers (l % 2) u (l / 2))) (record { at = λ v. zero-le })
              (λ u. record { at = tab-every (λ n. n ≤ spatial_most) 0 (λ l. numbers (l % 2) u (l / 2)) zero-le (λ l. numbers-most (l % 2) u (l / 2)) 18 }) 9;
        })

  -- ---- P'

  module _ (c : List (List ℤ)) {w : List (List ℤ)} (i : w ≡ grid 16 32 (transforms c)) where
    abbrev copy : (p y x : ℕ) → ℤ
    copy p = plane_in (cell (pos 0) c) p

    line_at : (p : ℕ) → p < 2 → (k b : ℕ) → k < 16 → b < 16 → lines_in w p k b ≡ two_way (copy p) k b
    line_at p o k b h j = place-of (pos 0) (λ p. transposed (two_way (copy p))) 16 i p o b k j h

    bin-re-at : (p : ℕ) → p < 2 → (u v : ℕ) → u < 16 → v < 9 → tile_re (lines_in w p) u v ≡ bin_re side16 (copy p) u v
    bin-re-at p o u v h k = tile-re-ext (lines_in w p) (two_way (copy p)) (line_at p o) u v h k ∙ bin-re (copy p) u v h k

    bin-im-at : (p : ℕ) → p < 2 → (u v : ℕ) → u < 16 → v < 9 → tile_im (lines_in w p) u v ≡ bin_im side16 (copy p) u v
    bin-im-at p o u v h k = tile-im-ext (lines_in w p) (two_way (copy p)) (line_at p o) u v h k ∙ bin-im (copy p) u v h k

    pair-re-is : (p : ℕ) → p < 2 → (u v : ℕ) → u < 16 → v < 9 → pair_re noises w p u v ≡ copy_filtered side16 (bin_noise (numbers p) u v) (bin_re side16 (copy p) u v) (bin_im side16 (copy p) u v)
    unfolding pair_re
    pair-re-is p o u v h k =
        ap (λ n. copy_filtered side16 n (tile_re (lines_in w p) u v) (tile_im (lines_in w p) u v)) (lanes_at p o u v h k)
        ∙ ap₂ (copy_filtered side16 (bin_noise (numbers p) u v)) (bin-re-at p o u v h k) (bin-im-at p o u v h k)

    pair-im-is : (p : ℕ) → p < 2 → (u v : ℕ) → u < 16 → v < 9 → pair_im noises w p u v ≡ copy_filtered side16 (bin_noise (numbers p) u v) (bin_im side16 (copy p) u v) (bin_re side16 (copy p) u v)
    unfolding pair_im
    pair-im-is p o u v h k =
        ap (λ n. copy_filtered side16 n (tile_im (lines_in w p) u v) (tile_re (lines_in w p) u v)) (lanes_at p o u v h k)
        ∙ ap₂ (copy_filtered side16 (bin_noise (numbers p) u v)) (bin-im-at p o u v h k) (bin-re-at p o u v h k)

    abbrev step_in : (y l : ℕ) → ℤ
    step_in y l = step_at (bin_noise (numbers (l % 2))) (copy (l % 2)) y (l / 2)

    -- lane 2·k + p is place k of plane p
    spread_at : (l k b : ℕ) → transposed (plane_in (spreads noises w) (l % 2)) k b ≡ spread (pair_re noises w (l % 2)) (pair_im noises w (l % 2)) k b
    spread_at l k b =
        let parity : (2 * k + l % 2) % 2 ≡ l % 2 = omega arith in
        let column : (2 * k + l % 2) / 2 ≡ k = omega arith in
        rw (parity, column)

    pub steps-are : {r : List (List ℤ)} → r ≡ grid 16 32 (λ y l. pos 0) → grid 16 32 (λ y l. cell (pos 0) r y l +ℤ away (back_sum (transposed (plane_in (spreads noises w) (l % 2))) y (l / 2)) (2 ^ 32)) ≡ grid 16 32 step_in
    steps-are z =
        grid-ext 16 32 _ _
        (λ y l h k. ap₂ ◌+ℤ◌ (ap (λ t. cell (pos 0) t y l) z ∙ cell-grid (pos 0) 16 32 (λ y l. pos 0) y l h k)
        (ap (λ z. away z (2 ^ 32)) (back-ext side16 (transposed (plane_in (spreads noises w) (l % 2))) (spread (pair_re noises w (l % 2)) (pair_im noises w (l % 2))) (λ k b i j. spread_at l k b) y (l / 2))
        ∙ steps_back (numbers (l % 2)) (copy (l % 2)) (pair_re noises w (l % 2)) (pair_im noises w (l % 2)) (pair-re-is (l % 2) (omega arith)) (pair-im-is (l % 2) (omega arith)) y (l / 2) h (omega arith))
        ∙ +ℤ_idl (step_in y l))

    pub steps-most : NoisesMost spatial_most first → NoisesMost spatial_most second → TileMost spatial_correction_most (grid 16 32 step_in)
    steps-most a b =
        table-most spatial_correction_most step_in (λ y l. step-most (bin_noise (numbers (l % 2))) (λ u v. numbers-most a b (l % 2) (frequency u) (frequency v)) (copy (l % 2)) y (l / 2)) 16 32
