-- Inside this crate, merge_gather and merge_frame: the corrections of a pair of tiles, summed over the other frames and filtered, and the pair on the way there.
use Rattle.std.specs.Prelude.{◌≡◌, ◌*◌, ◌^◌, ◌≤◌, ◌<◌}
use Rattle.merge_tiles.specs.Prelude.{List, [], ℕ, get_or, ℤ, nat_abs, grid, ValuesFit, side_by_side, either, taken_at, Scene, reference_tile, tile_noise, tile_difference, tile_here}
use Rattle.algebra.specs.Sums.{sum_z}
use Rattle.merge_tiles.specs.declared.Site.{Site}
use Rattle.recipe.specs.Correction.{correction_at}

-- each sample of a pair is at most 4095
pub record TileFits (t : List (List ℕ)) : Type 0 where
  pub row : (i : ℕ) → ValuesFit (get_or t i [])

-- f of a pair's tile of a column parity
abbrev pub at_site : {A : Type 0} → (f : (rowParity columnParity a b : ℕ) → A) → Site → (columnParity : ℕ) → A
at_site f t p = f t.parity p t.row t.column

-- the numbers f of a pair of tiles of side n, side by side
abbrev pub pair_at : {A : Type 0} → (n : ℕ) (f : (rowParity columnParity a b i j : ℕ) → A) → Site → List (List A)
pair_at n f t = grid n (2 * n) (side_by_side (at_site f t))

-- t0 is the pair of reference tiles, of a side, and `first` and `second` are the noise numbers of those of column parity 0 and 1, each of at most `top`
pub record TileOf (side top : ℕ) (s : Scene) (t : Site) (t0 : List (List ℕ)) (first second : ℕ) : Type 0 where
  pub is : t0 ≡ pair_at side (reference_tile s) t
  pub number : (p : ℕ) → p < 2 → either first second p ≡ at_site (tile_noise s) t p
  pub first_most : first ≤ top
  pub second_most : second ≤ top

-- P of a tile, summed over the other frames
unfoldable pub summed_at : Scene → (rowParity columnParity a b i j : ℕ) → ℤ
summed_at s rowParity columnParity a b i j =
    sum_z s.others (λ k. correction_at s.side (tile_noise s rowParity columnParity a b) (tile_difference s rowParity columnParity a b k) i j)

-- r is the sums of a pair's corrections, each of at most `small`, over the other frames
pub record Summed (side small : ℕ) (s : Scene) (t : Site) (r : List (List ℤ)) : Type 0 where
  pub is : r ≡ pair_at side (summed_at s) t
  pub most : (i l : ℕ) → i < side → l < 2 * side → nat_abs (side_by_side (at_site (summed_at s) t) i l) ≤ s.others * small

-- what is taken from T0 in all, in 1/(256·N): the sum of P, and N·P' of the spatial filter
unfoldable pub taken_in : Scene → (rowParity columnParity a b i j : ℕ) → ℤ
taken_in s rowParity columnParity a b = taken_at s.side s.others (tile_here s rowParity columnParity a b)

-- the largest such number, of up to seven other frames
abbrev pub taken_most : ℕ
taken_most = 2 ^ 33

-- numbers of this kind, those of a merge or others: at row i and column j of the tile of row a and column b
abbrev pub Taking : Type 0
Taking = (rowParity columnParity a b i j : ℕ) → ℤ

-- r is what is taken from a pair
pub record PairTaken (side : ℕ) (taken : Taking) (t : Site) (r : List (List ℤ)) : Type 0 where
  pub is : r ≡ pair_at side taken t
  pub most : (i l : ℕ) → i < side → l < 2 * side → nat_abs (side_by_side (at_site taken t) i l) ≤ taken_most

-- by a merge
abbrev pub Taken : (side : ℕ) → Scene → Site → List (List ℤ) → Type 0
Taken side s = PairTaken side (taken_in s)
