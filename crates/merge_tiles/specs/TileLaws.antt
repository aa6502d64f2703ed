-- Inside the crates of the merge: r and V of a pair of tiles by their cells, and what is taken from a pair where s is 0.
use Rattle.std.specs.Prelude.{◌≡◌, ◌+◌, ◌*◌, ◌/◌, ◌%◌, ◌≤◌, ◌<◌}
use Rattle.merge_tiles.specs.Prelude.{sym, ap, subst, ◌∙◌, List, ℕ, suc, arith, lit<, ℤ, nat_abs, Side, Merge, spatial_number, merged_sum, Scene, black_of, reference_tile, reference_root, tile_noise, tile_spatial, tile_here, scene_at, either}
use Rattle.std.proofs.Common.{le_trans, mul-le-mul_right}
use Rattle.sequences.specs.Grid.{cell, cell-grid, grid-ext}
use Rattle.recipe.specs.NoiseNumber.{tile_root, noise_number}
use Rattle.tile_root.specs.TileRootLaws.{tile-root-cong}
use Rattle.tile_spectrum.specs.FilterZeroLaws.{no-strength, taken_none}
use Rattle.merge_tiles.specs.declared.Site.{Site}
use Rattle.merge_tiles.specs.Sum.{at_site, pair_at, TileOf, summed_at, Summed, taken_in, taken_most, Taken}
use Rattle.merge_tiles.specs.NoiseLaws.{both}

module _ (n : ℕ) (side : Side) (sided : side.side ≡ n) (m : Merge) (samples : List ℕ) (vectors : List ℤ) (t : Site) {t0 : List (List ℕ)}
    (e : t0 ≡ pair_at n (reference_tile (scene_at side m samples vectors)) t) where
  -- r of the tile of column parity p, by its cells
  root-of : (p : ℕ) → p < 2 → (at : ℕ → ℕ) → ((j : ℕ) → at j ≡ 2 * j + p) → {black root : ℕ} → black ≡ black_of m.tuning t.parity p → root ≡ tile_root n black (λ i j. cell 0 t0 i (at j))
      → root ≡ at_site (reference_root (scene_at side m samples vectors)) t p
  unfolding scene_at
  root-of p h at place {black} b r =
      r ∙ ap (λ l. tile_root n l (λ i j. cell 0 t0 i (at j))) b ∙ tile-root-cong n _ _ _ plane
      ∙ ap (λ k. tile_root k (black_of m.tuning t.parity p) (at_site (reference_tile (scene_at side m samples vectors)) t p)) (sym sided)
    where
      plane : (i j : ℕ) → i < n → j < n → cell 0 t0 i (at j) ≡ at_site (reference_tile (scene_at side m samples vectors)) t p i j
      plane i j k l =
          let parity : at j % 2 ≡ p = omega (arith, place j) in
          let column : at j / 2 ≡ j = omega (arith, place j) in
          ap (λ x. cell 0 x i (at j)) e ∙ cell-grid 0 n (2 * n) _ i (at j) k (omega (arith, place j)) ∙ rw (parity, column)

  -- r of either tile, from the cells of its columns
  module _ {b c r q : ℕ} (f : b ≡ black_of m.tuning t.parity 0) (g : c ≡ black_of m.tuning t.parity 1)
      (h : r ≡ tile_root n b (λ i j. cell 0 t0 i (2 * j))) (k : q ≡ tile_root n c (λ i j. cell 0 t0 i (2 * j + 1))) where
    pub roots-of : (p : ℕ) → p < 2 → either r q p ≡ at_site (reference_root (scene_at side m samples vectors)) t p
    roots-of =
        both (λ p. either r q p ≡ at_site (reference_root (scene_at side m samples vectors)) t p) (root-of 0 (lit< tt) (λ j. 2 * j) (λ j. omega arith) f h)
        (root-of 1 (lit< tt) (λ j. 2 * j + 1) (λ j. omega arith) g k)

    -- and its V
    module _ {v w : ℕ} (x : v ≡ noise_number side m.tuning.strength m.shot m.read r) (y : w ≡ noise_number side m.tuning.strength m.shot m.read q) where
      pub numbers_of : (p : ℕ) → p < 2 → either v w p ≡ at_site (tile_noise (scene_at side m samples vectors)) t p
      unfolding tile_noise scene_at
      numbers_of =
          both (λ p. either v w p ≡ at_site (tile_noise (scene_at side m samples vectors)) t p)
          (x ∙ ap (noise_number side m.tuning.strength m.shot m.read) (roots-of 0 (lit< tt)))
          (y ∙ ap (noise_number side m.tuning.strength m.shot m.read) (roots-of 1 (lit< tt)))

      pub tile-of : {top : ℕ} → v ≤ top → w ≤ top → TileOf n top (scene_at side m samples vectors) t t0 v w
      tile-of low high = record { is = e; number = numbers_of; first_most = low; second_most = high }

-- s = 0
module _ (s : Scene) (t : Site) (off : s.tuning.spatial ≡ 0) where
  none : (p i j : ℕ) → at_site (taken_in s) t p i j ≡ at_site (summed_at s) t p i j
  unfolding taken_in summed_at merged_sum tile_here tile_spatial
  none p i j =
      taken_none s.side s.others (at_site (tile_here s) t p) s.side.divisor_above
      (λ u v. let root = at_site (reference_root s) t p in
      ap (λ n. spatial_number s.side n s.shot s.read root (suc s.others) u v) off ∙ no-strength s.side s.shot s.read root (suc s.others) u v) i j

  pub taken-off : (side small : ℕ) → s.others ≤ 7 → 7 * small ≤ taken_most → {r : List (List ℤ)} → Summed side small s t r → Taken side s t r
  taken-off side small few low w =
      record {
        is = w.is ∙ grid-ext side (2 * side) _ _ (λ i l h k. sym (none (l % 2) i (l / 2)));
        most = λ i l h k. subst (λ z. nat_abs z ≤ taken_most) (sym (none (l % 2) i (l / 2))) (le_trans (w.most i l h k) (le_trans (mul-le-mul_right small few) low));
      }
