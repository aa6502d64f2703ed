-- P of the two planes of a pair of differences d at the noise numbers first and second, added to the tile s: the steps as the code hands them on are the
-- recipe's.
use Rattle.std.specs.Prelude.{◌≡◌, ◌+◌, ◌*◌, ◌/◌, ◌%◌, ◌^◌, ◌≤◌, ◌<◌, ◌+ℤ◌}
use Rattle.tile_pair32.specs.Prelude.{refl, Bool, true, false, List, ℕ, eqb, lit≤, lit<, ℤ, pos, nat_abs, Float, away, side32, TileMost, difference_most, long_part_most, long_fold_most, two_way_of, transposed, spread_of, gain_re_of, gain_im_of, back_sum_of, plane_in, side_by_side, either, LongInDouble, LongBinned, LongBinnedPair, long_doubles}
use native.Mathlib.Nat.{le_trans}
use Rattle.sequences.specs.Grid.{grid, cell}
use Rattle.recipe.specs.Correction.{quantized, filtered, correction_at}
use Rattle.tile_spectrum.specs.PassLaws.{corrections-of}
use Rattle.tile_spectrum.specs.Lines.Tiles.{cells-most}
use Rattle.tile_spectrum.specs.Magnitudes.{long_noise_most, long_low_noise, long_middle_noise}
use Rattle.tile_spectrum.specs.Turns.{turns32}
use Rattle.tile_spectrum.specs.WienerLaws.{wiener-root}
use Rattle.tile_spectrum.specs.BinLaws.{long-binned}
use Rattle.tile_spectrum.specs.Apart.{cond_cases}
use Rattle.tile_spectrum.specs.LongLines.{spread-most}

-- ---- both planes in double

-- B of a plane of the differences
pub plane-binned : {d : List (List ℤ)} → TileMost difference_most d → (p : ℕ) → LongBinned (two_way_of side32 (plane_in (cell (pos 0) d) p))
plane-binned m p = long-binned _ (λ y x. cells-most m y (2 * x + p))

-- those of both planes
abbrev pub binned_pair : {d : List (List ℤ)} → TileMost difference_most d → {b : List (List Float)} → b ≡ long_doubles (side_by_side (λ p. transposed (two_way_of side32 (plane_in (cell (pos 0) d) p)))) → LongBinnedPair b
binned_pair {d} m e = record { plane = λ p. two_way_of side32 (plane_in (cell (pos 0) d) p); first = plane-binned m 0; second = plane-binned m 1; is = e }

-- V in terms of half its root
root-most : (low middle : Bool) (n : ℕ) → (low ≡ true → n ≤ long_low_noise) → (middle ≡ true → n ≤ long_middle_noise) → n ≤ long_noise_most → n ≤ 4 * long_part_most low middle * long_part_most low middle
root-most true middle n h m k = le_trans (h refl) (lit≤ tt)
root-most false true n h m k = le_trans (m refl) (lit≤ tt)
root-most false false n h m k = le_trans k (lit≤ tt)

part-above : (low middle : Bool) → 0 < long_part_most low middle
part-above true middle = lit< tt
part-above false true = lit< tt
part-above false false = lit< tt

gain-most : (low middle : Bool) (noise : ℕ) (b c : ℤ) → noise ≤ 4 * long_part_most low middle * long_part_most low middle → nat_abs (filtered side32 noise b c) ≤ long_part_most low middle
unfolding filtered
gain-most low middle noise b c h = wiener-root noise (long_part_most low middle) (quantized side32 b) (quantized side32 c) (part-above low middle) h

module _ (first second : ℕ) (t : ℕ → ℕ → ℕ → ℤ) where
  abbrev pub folded : ℕ → ℕ → ℕ → ℤ
  folded p = spread_of side32 (gain_re_of side32 (either first second p) (t p)) (gain_im_of side32 (either first second p) (t p))

  module _ (low middle : Bool) (few : low ≡ true → (first ≤ long_low_noise) × (second ≤ long_low_noise)) (some : middle ≡ true → (first ≤ long_middle_noise) × (second ≤ long_middle_noise)) (h : first ≤ long_noise_most) (k : second ≤ long_noise_most) where
    noise-most : (p : ℕ) → either first second p ≤ 4 * long_part_most low middle * long_part_most low middle
    noise-most p = cond_cases (λ n. n ≤ 4 * long_part_most low middle * long_part_most low middle) (eqb p 0) (root-most low middle first (λ e. (few e).0) (λ e. (some e).0) h) (root-most low middle second (λ e. (few e).1) (λ e. (some e).1) k)

    pub folded-most : (p x b : ℕ) → nat_abs (folded p x b) ≤ long_fold_most low middle
    unfolding gain_re_of gain_im_of side32
    folded-most p x b =
        spread-most (long_part_most low middle) (gain_re_of side32 (either first second p) (t p)) (gain_im_of side32 (either first second p) (t p))
        (λ u v. gain-most low middle (either first second p) _ _ (noise-most p)) (λ u v. gain-most low middle (either first second p) _ _ (noise-most p)) x b

    abbrev pub folded_whole : {g : List (List Float)} → g ≡ long_doubles (side_by_side (λ p. transposed (folded p))) → LongInDouble (long_fold_most low middle) g
    folded_whole e = record { number = side_by_side (λ p. transposed (folded p)); most = λ y l. folded-most (l % 2) (l / 2) y; is = e }

-- P of both planes of differences d, added to the tile s
pub corrections-are : (first second : ℕ) (d : ℕ → ℕ → ℤ) (s : List (List ℤ)) → grid 32 64 (λ y l. cell (pos 0) s y l +ℤ away (back_sum_of side32 (transposed (plane_in (side_by_side (λ p. transposed (folded first second (λ p. two_way_of side32 (plane_in d p)) p))) (l % 2))) y (l / 2)) (2 ^ 32)) ≡ grid 32 64 (λ y l. cell (pos 0) s y l +ℤ correction_at side32 (either first second (l % 2)) (plane_in d (l % 2)) y (l / 2))
unfolding side32
corrections-are = corrections-of turns32
