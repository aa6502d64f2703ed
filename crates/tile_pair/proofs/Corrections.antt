-- P of the two planes of a pair of differences d at the noise numbers first and second, added to the tile s: the steps as the code hands them on are the
-- recipe's.
use Rattle.std.specs.Prelude.{◌≡◌, ◌+◌, ◌*◌, ◌/◌, ◌%◌, ◌^◌, ◌≤◌, ◌<◌, ◌+ℤ◌}
use Rattle.tile_pair.specs.Prelude.{refl, Bool, true, false, List, ℕ, eqb, lit<, lit≤, ℤ, pos, nat_abs, Float, away, side16, TileMost, difference_most, part_most, fold_most, two_way, transposed, spread, gain_re, gain_im, back_sum, gain_im_of, gain_re_of, InDouble, Binned, BinnedPair, plane_in, side_by_side, either, doubles}
use native.Mathlib.Nat.{le_trans}
use Rattle.sequences.specs.Grid.{grid, cell}
use Rattle.recipe.specs.Correction.{quantized, filtered, correction_at}
use Rattle.tile_spectrum.specs.Turns.{turns16}
use Rattle.tile_spectrum.specs.PassLaws.{corrections-of}
use Rattle.tile_spectrum.specs.Lines.Tiles.{cells-most}
use Rattle.tile_spectrum.specs.Magnitudes.{noise_most, low_noise}
use Rattle.tile_spectrum.specs.WienerLaws.{wiener-root}
use Rattle.tile_spectrum.specs.Apart.{cond_cases}
use Rattle.tile_spectrum.specs.BinLaws.{differences-binned}
use Rattle.tile_spectrum.specs.FoldSizes.{spread-most}

-- ---- both planes in double

-- B of a plane of the differences
pub plane-binned : {d : List (List ℤ)} → TileMost difference_most d → (p : ℕ) → Binned (two_way (plane_in (cell (pos 0) d) p))
plane-binned m p = differences-binned _ (λ y x. cells-most m y (2 * x + p))

-- those of both planes
abbrev pub binned_pair : {d : List (List ℤ)} → TileMost difference_most d → {b : List (List Float)} → b ≡ doubles (side_by_side (λ p. transposed (two_way (plane_in (cell (pos 0) d) p)))) → BinnedPair b
binned_pair {d} m e = record { plane = λ p. two_way (plane_in (cell (pos 0) d) p); first = plane-binned m 0; second = plane-binned m 1; is = e }

-- V in terms of half its root
root-most : (low : Bool) (n : ℕ) → (low ≡ true → n ≤ low_noise) → n ≤ noise_most → n ≤ 4 * part_most low * part_most low
root-most true n h k = le_trans (h refl) (lit≤ tt)
root-most false n h k = le_trans k (lit≤ tt)

part-above : (low : Bool) → 0 < part_most low
part-above true = lit< tt
part-above false = lit< tt

gain-most : (low : Bool) (noise : ℕ) (b c : ℤ) → noise ≤ 4 * part_most low * part_most low → nat_abs (filtered side16 noise b c) ≤ part_most low
unfolding filtered
gain-most low noise b c h = wiener-root noise (part_most low) (quantized side16 b) (quantized side16 c) (part-above low) h

module _ (first second : ℕ) (t : ℕ → ℕ → ℕ → ℤ) where
  abbrev pub folded : ℕ → ℕ → ℕ → ℤ
  folded p = spread (gain_re (either first second p) (t p)) (gain_im (either first second p) (t p))

  module _ (low : Bool) (few : low ≡ true → (first ≤ low_noise) × (second ≤ low_noise)) (h : first ≤ noise_most) (k : second ≤ noise_most) where
    noise-most : (p : ℕ) → either first second p ≤ 4 * part_most low * part_most low
    noise-most p = cond_cases (λ n. n ≤ 4 * part_most low * part_most low) (eqb p 0) (root-most low first (λ e. (few e).0) h) (root-most low second (λ e. (few e).1) k)

    pub folded-most : (p x b : ℕ) → nat_abs (folded p x b) ≤ fold_most low
    unfolding gain_re_of gain_im_of side16
    folded-most p x b =
        spread-most (part_most low) (gain_re (either first second p) (t p)) (gain_im (either first second p) (t p))
        (λ u v. gain-most low (either first second p) _ _ (noise-most p)) (λ u v. gain-most low (either first second p) _ _ (noise-most p)) x b

    abbrev pub folded_whole : {g : List (List Float)} → g ≡ doubles (side_by_side (λ p. transposed (folded p))) → InDouble (fold_most low) g
    folded_whole e = record { number = side_by_side (λ p. transposed (folded p)); most = λ y l. folded-most (l % 2) (l / 2) y; is = e }

-- P of both planes of differences d, added to the tile s
pub corrections-are : (first second : ℕ) (d : ℕ → ℕ → ℤ) (s : List (List ℤ)) → grid 16 32 (λ y l. cell (pos 0) s y l +ℤ away (back_sum (transposed (plane_in (side_by_side (λ p. transposed (folded first second (λ p. two_way (plane_in d p)) p))) (l % 2))) y (l / 2)) (2 ^ 32)) ≡ grid 16 32 (λ y l. cell (pos 0) s y l +ℤ correction_at side16 (either first second (l % 2)) (plane_in d (l % 2)) y (l / 2))
unfolding side16
corrections-are = corrections-of turns16
