-- Inside the crates of the merge: pairs of tiles of an accepted burst: samples up to 4095, so differences up to 4095.
use Rattle.std.specs.Prelude.{◌≡◌, ◌+◌, ◌-◌, ◌*◌, ◌/◌, ◌%◌, ◌≤◌, ◌<◌, ◌-ℤ◌}
use Rattle.merge_tiles.specs.Prelude.{sym, ap, ap₂, subst, ◌∙◌, List, [], ℕ, arith, length, get_or, ℤ, pos, nat_abs, tab, Shape, sample_at, plane_of, read, Allowed, SamplesFit, ValuesFit, VectorsFit, Side, Merge, Scene, tile_at, reference_tile, other_tile, tile_difference, scene_at, LineMost, TileMost, side_by_side}
use Rattle.algebra.specs.Prelude.{w32, to_z, of_z, to_z-of_z}
use Rattle.algebra.specs.Bound.{AtMost, most_fits}
use Rattle.algebra.specs.Order.{zarith, sub-pn, min-pn, abs-pn}
use Rattle.sequences.specs.TabLaws.{length-tab, tab-every}
use Rattle.sequences.specs.Grid.{grid, cell, cell-grid, grid-ext}
use Rattle.geometry.specs.ReadLaws.{plane-inside}
use Rattle.geometry.specs.Vectors.{other_frame, vector_place, down_at, right_at}
use Rattle.geometry.specs.VectorLaws.{other-below}
use Rattle.merge_tiles.specs.declared.Site.{Site}
use Rattle.merge_tiles.specs.Accepted.{Accepted, Sited}
use Rattle.merge_tiles.specs.Sum.{at_site, TileFits}
use Rattle.tile_spectrum.specs.Lines.Magnitudes.{difference_most}

-- the rows of a pair
pub pair-rows : {A : Type 0} (n : ℕ) (f : ℕ → ℕ → A) {t : List (List A)} → t ≡ grid n (2 * n) f → length t ≡ n
unfolding grid
pair-rows n f e = ap length e ∙ length-tab (λ i. tab (2 * n) (f i)) n

-- differences of pairs, cell by cell
pub difference-grid : (n : ℕ) (s : Scene) (rowParity a b k : ℕ) {t0 tz : List (List ℕ)} → t0 ≡ grid n (2 * n) (side_by_side (λ p. reference_tile s rowParity p a b)) → tz ≡ grid n (2 * n) (side_by_side (λ p. other_tile s rowParity p a b k))
    → grid n (2 * n) (λ i l. pos (cell 0 t0 i l) -ℤ pos (cell 0 tz i l)) ≡ grid n (2 * n) (side_by_side (λ p. tile_difference s rowParity p a b k))
unfolding tile_difference
difference-grid n s rowParity a b k e f =
    rw (e, f) (grid-ext n (2 * n) _ _ (λ i l g h. ap₂ (λ x y. pos x -ℤ pos y) (cell-grid 0 n (2 * n) _ i l g h) (cell-grid 0 n (2 * n) _ i l g h)))

pub tile-fits : (n : ℕ) {t : List (List ℕ)} (f : ℕ → ℕ → ℕ → ℕ) → ((p : ℕ) → p < 2 → (i j : ℕ) → f p i j ≤ 4095) → t ≡ grid n (2 * n) (side_by_side f) → TileFits t
unfolding grid
tile-fits n f h e =
    record {
      row = rw e (tab-every ValuesFit [] (λ i. tab (2 * n) (side_by_side f i)) (record { most = λ l. omega arith }) (λ i. record { most = tab-every (λ n. n ≤ 4095) 0 (side_by_side f i) (omega arith) (λ l. h (l % 2) (omega arith) i (l / 2)) (2 * n) }) n);
    }

-- a part of a vector, as the code holds it
module _ {vectors : List ℤ} (v : VectorsFit vectors) (k : ℕ) where
  pub part-most : AtMost 172 (get_or vectors k (pos 0))
  part-most = record { most = v.most k }

  pub part-is : to_z w32 (of_z w32 (get_or vectors k (pos 0))) ≡ get_or vectors k (pos 0)
  part-is = to_z-of_z (most_fits w32 _ 172 part-most tt)

-- Tz of a pair: that of the frame which k names, moved by the vector that stands at its place
pub other-pair-is : (n : ℕ) (side : Side) (m : Merge) (samples : List ℕ) (vectors : List ℤ) (rowParity a b k : ℕ) {frame place : ℕ} {down right : ℤ}
    → frame ≡ other_frame m.reference k → place ≡ vector_place m.shape k a b → down ≡ get_or vectors place (pos 0) → right ≡ get_or vectors (place + 1) (pos 0)
    → grid n (2 * n) (side_by_side (λ p. tile_at side m.shape.height m.shape.width rowParity p (sample_at m.shape samples frame) down right a b))
    ≡ grid n (2 * n) (side_by_side (λ p. other_tile (scene_at side m samples vectors) rowParity p a b k))
unfolding other_tile scene_at down_at right_at
other-pair-is n side m samples vectors rowParity a b k f p d r = rw (d, r, f, p)

-- a site of an accepted burst has a vector
module _ {n : ℕ} {m : Merge} {samples : List ℕ} {vectors : List ℤ} (ok : Accepted n m samples vectors) {site : Site} (sited : Sited n m.shape site) where
  pub site-row : site.row < m.shape.height / m.shape.side + 1
  site-row = subst (λ n. site.row < m.shape.height / n + 1) (sym ok.side_is) (omega (arith, sited.row))

  pub site-column : site.column < m.shape.width / m.shape.side + 1
  site-column = subst (λ n. site.column < m.shape.width / n + 1) (sym ok.side_is) (omega (arith, sited.column))

apart : (x y : ℕ) → x ≤ 4095 → y ≤ 4095 → nat_abs (pos x -ℤ pos y) ≤ 4095
apart x y h k = omega (zarith, sub-pn (pos x) (pos y), min-pn (pos x -ℤ pos y), abs-pn (pos x -ℤ pos y))

-- a sample of a tile is one of its frame's
tile-sample : (side : Side) {s : Shape} {samples : List ℕ} → Allowed s → SamplesFit s samples → (frame : ℕ) → frame < s.count → {rowParity columnParity : ℕ} → rowParity < 2 → columnParity < 2 → (down right : ℤ) (a b i j : ℕ)
    → tile_at side s.height s.width rowParity columnParity (sample_at s samples frame) down right a b i j ≤ 4095
unfolding tile_at read plane_of
tile-sample side ok fit frame f r c down right a b i j = fit.most frame _ _ f (plane-inside ok.high _ _ r) (plane-inside ok.wide _ _ c)

-- those of column parity p
module _ {n : ℕ} {m : Merge} {samples : List ℕ} {vectors : List ℤ} (side : Side) (ok : Accepted n m samples vectors) {site : Site} (sited : Sited n m.shape site) where
  abbrev s : Scene
  s = scene_at side m samples vectors

  pub reference-most : (p : ℕ) → p < 2 → (i j : ℕ) → at_site (reference_tile s) site p i j ≤ 4095
  unfolding scene_at reference_tile
  reference-most p c = tile-sample side ok.burst.allowed ok.samples_fit m.reference ok.burst.reference_below sited.parity c (pos 0) (pos 0) site.row site.column

  -- and the k-th other frame
  module _ (k : ℕ) (h : k < m.shape.count - 1) where
    pub other-most : (p : ℕ) → p < 2 → (i j : ℕ) → at_site (other_tile s) site p k i j ≤ 4095
    unfolding scene_at other_tile
    other-most p c = tile-sample side ok.burst.allowed ok.samples_fit (other_frame m.reference k) (other-below m.reference k m.shape.count h) sited.parity c _ _ site.row site.column

    pub difference-most : (p : ℕ) → p < 2 → (i j : ℕ) → nat_abs (at_site (tile_difference s) site p k i j) ≤ 4095
    unfolding tile_difference
    difference-most p c i j = apart _ _ (reference-most p c i j) (other-most p c i j)

    pub tile-most : TileMost difference_most (grid n (2 * n) (side_by_side (λ p. at_site (tile_difference s) site p k)))
    unfolding grid
    tile-most =
        record {
          line = tab-every (LineMost difference_most) [] _ (record { at = λ i. omega arith })
              (λ i. record { at = tab-every (λ z. nat_abs z ≤ 4095) (pos 0) _ (omega arith) (λ l. difference-most (l % 2) (omega arith) i (l / 2)) (2 * n) }) n;
        }
