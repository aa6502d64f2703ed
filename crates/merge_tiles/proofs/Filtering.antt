-- What is taken from a pair of side 16 where s is not 0: its sums with N·P'.
use Rattle.std.specs.Prelude.{◌≡◌, ◌+◌, ◌*◌, ◌/◌, ◌%◌, ◌≤◌, ◌<◌, ◌+ℤ◌, ◌-ℤ◌, ◌*ℤ◌}
use Rattle.merge_tiles.specs.Prelude.{refl, sym, ap, ap₂, subst, ◌∙◌, List, [], ℕ, suc, arith, ℤ, pos, nat_abs, tab, side16, Merge, spatial_number, merged_sum, copy_at, spatial_at, taken_at, Scene, reference_tile, reference_root, tile_spatial, tile_here, scene_at, SpatialRange, small_most, spatial_correction_most, plane_in, side_by_side, either, Paired, copy_in, step_at, SumMost, SumRow, SumPair}
use Rattle.algebra.specs.Order.{abs-add, abs-mul-le}
use Rattle.algebra.specs.Nearest.{away}
use Rattle.sequences.specs.TabLaws.{tab-each}
use Rattle.sequences.specs.Grid.{grid, cell, cell-grid, grid-ext, grid-of}
use Rattle.noise.specs.SpatialLaws.{spatial-number-most}
use Rattle.tile_spatial.specs.FilteringLaws.{step-cong, step-most}
use Rattle.merge_tiles.specs.declared.Site.{Site}
use Rattle.merge_tiles.specs.Sum.{at_site, pair_at, summed_at, Summed, taken_in, taken_most, Taken}

-- the sums of a pair, as the filter takes them
pub sums-fit : (s : Scene) (t : Site) (frames : ℕ) → frames ≡ suc s.others → {r : List (List ℤ)} → Summed 16 small_most s t r → SumPair frames r
unfolding grid
sums-fit s t frames e {r} w =
    record {
      row = λ y. rw w.is
          (tab-each (SumRow frames) [] (λ i. tab 32 (f i)) (record { at = λ l. record { most = omega (arith, e) } }) 16
          (λ i h. record { at = tab-each (SumMost frames) (pos 0) (f i) (record { most = omega (arith, e) }) 32 (λ l k. record { most = omega (arith, e, w.most i l h k) }) }) y);
    }
  where
    f : ℕ → ℕ → ℤ
    f = side_by_side (at_site (summed_at s) t)

pub sums-paired : {s : Scene} {t : Site} {r : List (List ℤ)} → Summed 16 small_most s t r → Paired (pos 0) r
sums-paired {s} {t} w = record { is = grid-of (pos 0) 16 32 (side_by_side (at_site (summed_at s) t)) w.is }

-- s above 0: t0 is T0 of both planes, and sum their sums
module _ (m : Merge) (samples : List ℕ) (vectors : List ℤ) (t : Site) (t0 : List (List ℕ)) (sum : List (List ℤ)) (first second : ℕ)
    (some : 1 ≤ m.shape.count) (few : m.shape.count ≤ 8)
    (tile : t0 ≡ pair_at 16 (reference_tile (scene_at side16 m samples vectors)) t)
    (w : Summed 16 small_most (scene_at side16 m samples vectors) t sum)
    (roots : (p : ℕ) → p < 2 → either first second p ≡ at_site (reference_root (scene_at side16 m samples vectors)) t p)
    (ranges : (p : ℕ) → p < 2 → SpatialRange m.tuning.spatial m.shot m.read (either first second p) m.shape.count) where
  abbrev s : Scene
  s = scene_at side16 m samples vectors

  abbrev frames : ℕ
  frames = m.shape.count

  abbrev noise : (p u v : ℕ) → ℕ
  noise p = spatial_number side16 m.tuning.spatial m.shot m.read (either first second p) frames

  abbrev copy : (p y x : ℕ) → ℤ
  copy p = copy_in frames (plane_in (cell 0 t0) p) (plane_in (cell (pos 0) sum) p)

  frames-is : frames ≡ suc s.others
  unfolding scene_at
  frames-is = omega (arith, some)

  -- plane p of a pair
  plane : {A : Type 0} (d : A) {z : List (List A)} (f : ℕ → ℕ → ℕ → A) → z ≡ grid 16 32 (side_by_side f) → (p : ℕ) → p < 2 → (y x : ℕ) → y < 16 → x < 16 → plane_in (cell d z) p y x ≡ f p y x
  plane d f e p c y x g h =
      let parity : (2 * x + p) % 2 ≡ p = omega arith in
      let column : (2 * x + p) / 2 ≡ x = omega arith in
      ap (λ z. cell d z y (2 * x + p)) e ∙ cell-grid d 16 32 _ y (2 * x + p) g (omega arith) ∙ rw (parity, column)

  sum_is : (p y x : ℕ) → at_site (summed_at s) t p y x ≡ merged_sum s.side s.others (at_site (tile_here s) t p) y x
  unfolding summed_at merged_sum tile_here
  sum_is p y x = refl

  copy_is : (p : ℕ) → p < 2 → (y x : ℕ) → y < 16 → x < 16 → copy p y x ≡ copy_at s.side s.others (at_site (tile_here s) t p) y x
  unfolding copy_in copy_at tile_here
  copy_is p c y x g h =
      ap₂ (λ a b. away (pos a *ℤ pos (256 * frames) -ℤ b) frames) (plane 0 (at_site (reference_tile s) t) tile p c y x g h) (plane (pos 0) (at_site (summed_at s) t) w.is p c y x g h ∙ sum_is p y x)
      ∙ ap (λ n. away (pos (at_site (reference_tile s) t p y x) *ℤ pos (256 * n) -ℤ merged_sum s.side s.others (at_site (tile_here s) t p) y x) n) frames-is

  noise-is : (p : ℕ) → p < 2 → noise p ≡ at_site (tile_spatial s) t p
  unfolding tile_spatial scene_at
  noise-is p c = ap₂ (λ r n. spatial_number side16 m.tuning.spatial m.shot m.read r n) (roots p c) frames-is

  step_is : (p : ℕ) → p < 2 → (y x : ℕ) → step_at (noise p) (copy p) y x ≡ spatial_at s.side s.others (at_site (tile_here s) t p) y x
  unfolding step_at spatial_at tile_here scene_at
  step_is p c y x =
      step-cong (noise p) (copy p) (copy_at side16 s.others (at_site (tile_here s) t p)) (copy_is p c) y x
      ∙ ap (λ n. step_at n (copy_at side16 s.others (at_site (tile_here s) t p)) y x) (noise-is p c)

  cell-is : (i l : ℕ) → i < 16 → l < 32 → cell (pos 0) sum i l +ℤ pos frames *ℤ step_at (noise (l % 2)) (copy (l % 2)) i (l / 2) ≡ side_by_side (at_site (taken_in s) t) i l
  unfolding taken_in taken_at summed_at merged_sum tile_here
  cell-is i l h k =
      ap₂ ◌+ℤ◌ (ap (λ z. cell (pos 0) z i l) w.is ∙ cell-grid (pos 0) 16 32 _ i l h k) (ap₂ (λ n z. pos n *ℤ z) frames-is (step_is (l % 2) (omega arith) i (l / 2)))

  number-most : (i l : ℕ) → i < 16 → l < 32 → nat_abs (cell (pos 0) sum i l +ℤ pos frames *ℤ step_at (noise (l % 2)) (copy (l % 2)) i (l / 2)) ≤ taken_most
  unfolding scene_at
  number-most i l h k =
      let z = step_at (noise (l % 2)) (copy (l % 2)) i (l / 2) in
      let a : nat_abs (cell (pos 0) sum i l) ≤ s.others * small_most = subst (λ z. nat_abs z ≤ s.others * small_most) (sym (ap (λ z. cell (pos 0) z i l) w.is ∙ cell-grid (pos 0) 16 32 _ i l h k)) (w.most i l h k) in
      let b : nat_abs (pos frames *ℤ z) ≤ 8 * spatial_correction_most = abs-mul-le (pos frames) z few (step-most (noise (l % 2)) (spatial-number-most (ranges (l % 2) (omega arith))) (copy (l % 2)) i (l / 2)) in
      omega (arith, abs-add (cell (pos 0) sum i l) (pos frames *ℤ z), a, b, few)

  pub taken-on : {r : List (List ℤ)} → r ≡ grid 16 32 (λ i l. cell (pos 0) sum i l +ℤ pos frames *ℤ step_at (noise (l % 2)) (copy (l % 2)) i (l / 2)) → Taken 16 s t r
  taken-on e =
      record {
        is = e ∙ grid-ext 16 32 _ _ cell-is;
        most = λ i l h k. subst (λ z. nat_abs z ≤ taken_most) (cell-is i l h k) (number-most i l h k);
      }
