-- The two passes of the transform, and those of the inverse, on a pair of tiles of any side: 2·n numbers in each of n rows, where n is the side.
use Rattle.std.specs.Prelude.{◌≡◌, ◌+◌, ◌*◌, ◌/◌, ◌%◌, ◌^◌, ◌≤◌, ◌+ℤ◌, ◌*ℤ◌}
use Rattle.tile_spectrum.specs.Prelude.{sym, ap, ap₂, ◌∙◌, List, [], ℕ, suc, arith, lit<, eqb, cond, ℤ, pos, nat_abs, neg_ℤ, away, tab, Side, halfcomplex_of, backward_of, half_sum_of, correction_at}
use Rattle.algebra.specs.Prelude.{negsuc}
use Rattle.std.proofs.Common.{zero-le}
use Rattle.std.specs.Float.{binary64}
use Rattle.std.specs.Float.Ieee.{of_int}
use Rattle.algebra.specs.NearestLaws.{away-odd}
use Rattle.sequences.specs.TabLaws.{tab-each}
use Rattle.sequences.specs.Grid.{grid, cell, cell-grid, grid-ext}
use Rattle.tile_spectrum.specs.Lines.Lines.{LineMost, TileMost}
use Rattle.tile_spectrum.specs.Lines.Tiles.{line-most}
use Rattle.tile_spectrum.specs.Lines.SideFolds.{line-ext}
use Rattle.tile_spectrum.specs.Spectrum.{two_way_of, transposed, apart_of, counted_of, back_sum_of, BinsHeld, folded_gain}
use Rattle.tile_spectrum.specs.Turns.{Turns}
use Rattle.tile_spectrum.specs.Pairs.{plane_in, side_by_side, by_columns, either}
use Rattle.tile_spectrum.specs.SpectrumLaws.{bin-re-of, bin-im-of, columns-first}
use Rattle.tile_spectrum.specs.PlaceLaws.{back-ext}
use Rattle.tile_spectrum.specs.CorrectionLaws.{corrected}

-- a table of small numbers
pub grid-most : (n m b : ℕ) (f : ℕ → ℕ → ℤ) → ((k l : ℕ) → nat_abs (f k l) ≤ b) → TileMost b (grid n m f)
unfolding grid
grid-most n m b f h = record { line = tab-each (LineMost b) [] (λ k. tab m (f k)) (record { at = λ i. zero-le }) n (λ k l. line-most b (f k) (h k) m) }

-- the columns' transforms a, and theirs along the rows
pub both-ways-of : {s : Side} → Turns s → (d : ℕ → ℕ → ℤ) {a : List (List ℤ)} → a ≡ grid s.side (2 * s.side) (λ b l. halfcomplex_of s (λ y. d y l) b)
    → grid s.side (2 * s.side) (λ y l. of_int binary64 (side_by_side (λ p b. halfcomplex_of s (plane_in (cell (pos 0) a) p b)) y l))
    ≡ grid s.side (2 * s.side) (λ y l. of_int binary64 (by_columns (λ p. two_way_of s (plane_in d p)) y l))
both-ways-of {s} t d {a} p =
    grid-ext s.side (2 * s.side) _ _ (λ b l i j. ap (of_int binary64)
    (line-ext s _ _ (λ x m. ap (λ t. cell (pos 0) t b (2 * x + l % 2)) p ∙ cell-grid (pos 0) s.side (2 * s.side) (λ b l. halfcomplex_of s (λ y. d y l) b) b (2 * x + l % 2) i (omega arith)) (l / 2)
    ∙ sym (columns-first t (plane_in d (l % 2)) (l / 2) b)))

-- ---- the inverse

halved : (a : ℕ) → (2 * a + 2 ^ 31) / (2 * 2 ^ 31) ≡ (2 * (2 * a) + 2 ^ 32) / (2 * 2 ^ 32)
halved a = omega arith

-- half of a sum over 2^31 is the sum over 2^32
away-half : (z b : ℤ) → pos 2 *ℤ z ≡ b → away z (2 ^ 31) ≡ away b (2 ^ 32)
unfolding away
away-half (pos a) b e = ap pos (halved a) ∙ ap (λ b. away b (2 ^ 32)) e
away-half (negsuc a) b e =
    ap (λ n. neg_ℤ (pos n)) (halved (suc a)) ∙ sym (away-odd (pos (2 * suc a)) (2 ^ 32) (lit< tt)) ∙ ap (λ b. away b (2 ^ 32)) e

-- P of half of the sums back along the rows, added to the tile t, where twice a half is the sum
pub back-is-of : (s : Side) → ((z : ℕ → ℤ) (n : ℕ) → pos 2 *ℤ half_sum_of s z n ≡ backward_of s (λ k. cond (eqb (k % s.half) 0) (z k) (pos 2 *ℤ z k)) n) → (n m : ℕ) (g : ℕ → ℕ → ℤ) (t : List (List ℤ))
    → grid n m (λ y l. cell (pos 0) t y l +ℤ away (half_sum_of s (plane_in (λ y l. backward_of s (λ b. g b l) y) (l % 2) y) (l / 2)) (2 ^ 31))
    ≡ grid n m (λ y l. cell (pos 0) t y l +ℤ away (back_sum_of s (transposed (plane_in g (l % 2))) y (l / 2)) (2 ^ 32))
unfolding back_sum_of counted_of apart_of
back-is-of s twice n m g t =
    grid-ext n m _ _ (λ y l h k. ap (λ z. cell (pos 0) t y l +ℤ z)
    (away-half (half_sum_of s (λ x. backward_of s (λ b. g b (2 * x + l % 2)) y) (l / 2)) (back_sum_of s (transposed (plane_in g (l % 2))) y (l / 2)) (twice (λ x. backward_of s (λ b. g b (2 * x + l % 2)) y) (l / 2))))

-- ---- P

-- lane 2·k + p is place k of plane p
lane : {A : Type 0} (f : ℕ → ℕ → A) (k l : ℕ) → f ((2 * k + l % 2) % 2) ((2 * k + l % 2) / 2) ≡ f (l % 2) k
lane f k l =
    let p : (2 * k + l % 2) % 2 ≡ l % 2 = omega arith in
    let q : (2 * k + l % 2) / 2 ≡ k = omega arith in
    ap₂ f p q

-- P of the two planes of differences d at the noise numbers first and second, added to the tile r: from the folded G as the code hands it on it is the recipe's
module _ {s : Side} (t : Turns s) (first second : ℕ) (d : ℕ → ℕ → ℤ) (r : List (List ℤ)) where
  bins : (p : ℕ) → BinsHeld s (plane_in d p) (two_way_of s (plane_in d p))
  bins p = record { re = bin-re-of t (plane_in d p); im = bin-im-of t (plane_in d p) }

  abbrev back : ℕ → ℕ → ℕ → ℤ
  back p = folded_gain s (either first second p) (two_way_of s (plane_in d p))

  pub corrections-of : grid s.side (2 * s.side) (λ y l. cell (pos 0) r y l +ℤ away (back_sum_of s (transposed (plane_in (by_columns back) (l % 2))) y (l / 2)) s.divisor)
      ≡ grid s.side (2 * s.side) (λ y l. cell (pos 0) r y l +ℤ correction_at s (either first second (l % 2)) (plane_in d (l % 2)) y (l / 2))
  corrections-of =
      grid-ext s.side (2 * s.side) _ _ (λ y l h k. ap (λ z. cell (pos 0) r y l +ℤ z)
      (ap (λ z. away z s.divisor) (back-ext s (transposed (plane_in (by_columns back) (l % 2))) (back (l % 2)) (λ x b i j. lane (λ p x. back p x b) x l) y (l / 2))
      ∙ corrected t (either first second (l % 2)) (plane_in d (l % 2)) (two_way_of s (plane_in d (l % 2))) (bins (l % 2)) y (l / 2) h (omega arith)))
