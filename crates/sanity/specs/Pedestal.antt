-- Try black levels (request L3): with all four 0 the merge is document 01's; a plane's level moves that plane's samples alone; V falls as the level rises, and
-- a level above every sample leaves r = 0.
use Rattle.std.specs.Prelude.{◌≡◌, ◌∷◌, ◌+◌, ◌-◌, ◌*◌, ◌/◌, ◌%◌, ◌≤◌, ◌<◌}
use Rattle.sanity.specs.Prelude.{refl, sym, ap, ap₂, ◌∙◌, List, [], ℕ, zero, suc, arith, eqb, get_or, ℤ, pos, nat_abs, replicate, sum_n, tab, plane_of, Tuning, Merge, squared, sum_of_squares, tile_root, noise_number, side_of, output_sample, Scene, scene_of, black_of, tile_over, reference_tile, other_tile, tile_noise, tile_spatial, tile_difference, difference_over, tile_here, scene_at, plane_output, output_at, word_at, merged}
use Rattle.std.proofs.Math.Path.{fun_ext}
use Rattle.std.proofs.Common.{le_refl}
use Rattle.algebra.specs.SumLaws.{sum_n-cong}
use Rattle.sequences.specs.TabLaws.{get_d-tab}
use Rattle.tile_root.specs.TileRootLaws.{tile-root-bound, tile-root-falls}
use Rattle.noise.specs.NoiseNumberLaws.{noise-number-mono, long-noise-mono}
use Rattle.recipe.specs.Root.{whole_root}
use Rattle.tile_spectrum.specs.Apart.{cond_cases}
use Rattle.recipe.specs.SpatialNoise.{spatial_number}
use Rattle.recipe.specs.Spatial.{filtered_sample}
use Rattle.closeness.specs.Spatial.PlainLaws.{plain-output as base-output}

-- every plane has the same black level
pub record OneBlack (tuning : Tuning) (black : ℕ) : Type 0 where
  pub at : (rowParity columnParity : ℕ) → black_of tuning rowParity columnParity ≡ black

abbrev pub zero_black : List ℕ
zero_black = 0 ∷ 0 ∷ 0 ∷ 0 ∷ []

zero-at : (n k : ℕ) → ◌≡◌ {A = ℕ} (get_or (replicate n 0) k 0) 0
zero-at zero k = refl
zero-at (suc n) zero = refl
zero-at (suc n) (suc k) = zero-at n k

pub zero-black : (tuning : Tuning) → tuning.black ≡ zero_black → OneBlack tuning 0
unfolding black_of
zero-black tuning e = record { at = λ rowParity columnParity. ap (λ l. get_or l (2 * rowParity + columnParity) 0) e ∙ zero-at 4 (2 * rowParity + columnParity) }

-- ---- document 01's merge, without black levels

-- "r = floor of the root of the sum of T0 squared"
unfoldable pub plain_root : (n : ℕ) → (ℕ → ℕ → ℕ) → ℕ
plain_root n tile = whole_root (sum_n n (λ i. sum_n n (λ j. tile i j * tile i j)))

module _ (s : Scene) where
  unfoldable pub plain_noise : (rowParity columnParity a b : ℕ) → ℕ
  plain_noise rowParity columnParity a b = noise_number s.side s.tuning.strength s.shot s.read (plain_root s.side.side (reference_tile s rowParity columnParity a b))

  unfoldable pub plain_output : (rowParity columnParity y x : ℕ) → ℤ
  plain_output rowParity columnParity y x =
      output_sample s.side (y % s.side.half) (x % s.side.half) s.others
      (λ t. plain_noise rowParity columnParity (tile_over s.side y (t / 2)) (tile_over s.side x (t % 2)))
      (difference_over s rowParity columnParity y x) (pos (plane_of s.reference rowParity columnParity y x))

  unfoldable pub plain_word : (k : ℕ) → ℕ
  plain_word k = nat_abs (plain_output (k / s.width % 2) (k % s.width % 2) (k / s.width / 2) (k % s.width / 2))

  unfoldable pub plain_merged : List ℕ
  plain_merged = tab (s.width * s.height) plain_word

-- "With all four zero nothing moves": r, V, each sample, and the merged frame
pub plain-root : (n : ℕ) (tile : ℕ → ℕ → ℕ) → tile_root n 0 tile ≡ plain_root n tile
unfolding tile_root sum_of_squares plain_root
plain-root n tile = ap whole_root (sum_n-cong n _ _ (λ i h. sum_n-cong n (λ j. squared 0 (tile i j)) (λ j. tile i j * tile i j) (λ j k. whole (tile i j))))
  where
    whole : (x : ℕ) → squared 0 x ≡ x * x
    whole x = let e : x - 0 ≡ x = omega arith in ap (λ y. y * y) e

module _ (s : Scene) (none : OneBlack s.tuning 0) where
  pub plain-noise : (rowParity columnParity a b : ℕ) → tile_noise s rowParity columnParity a b ≡ plain_noise s rowParity columnParity a b
  unfolding tile_noise plain_noise
  plain-noise rowParity columnParity a b =
      ap (noise_number s.side s.tuning.strength s.shot s.read)
      (ap (λ l. tile_root s.side.side l (reference_tile s rowParity columnParity a b)) (none.at rowParity columnParity) ∙ plain-root _ _)

  pub plain-output : s.tuning.spatial ≡ 0 → (rowParity columnParity y x : ℕ) → plane_output s rowParity columnParity y x ≡ plain_output s rowParity columnParity y x
  unfolding plain_output
  plain-output off rowParity columnParity y x =
      base-output s off rowParity columnParity y x
      ∙ ap (λ noise. output_sample s.side (y % s.side.half) (x % s.side.half) s.others noise (difference_over s rowParity columnParity y x) (pos (plane_of s.reference rowParity columnParity y x)))
      (fun_ext (λ t. plain-noise rowParity columnParity (tile_over s.side y (t / 2)) (tile_over s.side x (t % 2))))

  pub plain-merged : s.tuning.spatial ≡ 0 → merged s ≡ plain_merged s
  unfolding merged word_at output_at plain_merged plain_word
  plain-merged off = ap (tab (s.width * s.height)) (fun_ext (λ k. ap nat_abs (plain-output off (k / s.width % 2) (k % s.width % 2) (k / s.width / 2) (k % s.width / 2))))

-- ---- other black levels

abbrev pub blackened : Merge → (black : List ℕ) → Merge
blackened m black = record { shape = m.shape; reference = m.reference; shot = m.shot; read = m.read; tuning = record { strength = m.tuning.strength; black = black; spatial = m.tuning.spatial } }

module _ (m : Merge) (black : List ℕ) (samples : List ℕ) (vectors : List ℤ) where
  abbrev s : Scene
  s = scene_of m samples vectors

  abbrev s' : Scene
  s' = scene_of (blackened m black) samples vectors

  module _ (rowParity columnParity : ℕ) where
    -- where a plane keeps its level, so do its noise numbers ..
    noise-stays : black_of (blackened m black).tuning rowParity columnParity ≡ black_of m.tuning rowParity columnParity → (a b : ℕ) → tile_noise s' rowParity columnParity a b ≡ tile_noise s rowParity columnParity a b
    unfolding scene_at tile_noise reference_tile
    noise-stays same a b = ap (λ l. noise_number s.side m.tuning.strength m.shot m.read (tile_root s.side.side l (reference_tile s rowParity columnParity a b))) same

    spatial-stays : black_of (blackened m black).tuning rowParity columnParity ≡ black_of m.tuning rowParity columnParity → (a b : ℕ) → tile_spatial s' rowParity columnParity a b ≡ tile_spatial s rowParity columnParity a b
    unfolding scene_at tile_spatial reference_tile
    spatial-stays same a b = ap (λ l. spatial_number s.side m.tuning.spatial m.shot m.read (tile_root s.side.side l (reference_tile s rowParity columnParity a b)) (suc s.others)) same

    -- V falls as the level rises
    pub noise-falls : black_of m.tuning rowParity columnParity ≤ black_of (blackened m black).tuning rowParity columnParity → (a b : ℕ) → tile_noise s' rowParity columnParity a b ≤ tile_noise s rowParity columnParity a b
    unfolding scene_at tile_noise reference_tile side_of
    noise-falls higher a b =
        let h = tile-root-falls s.side.side higher (reference_tile s rowParity columnParity a b) in
        cond_cases (λ n. noise_number n m.tuning.strength m.shot m.read (tile_root s.side.side (black_of (blackened m black).tuning rowParity columnParity) (reference_tile s rowParity columnParity a b)) ≤ noise_number n m.tuning.strength m.shot m.read (tile_root s.side.side (black_of m.tuning rowParity columnParity) (reference_tile s rowParity columnParity a b)))
        (eqb m.shape.side 32) (long-noise-mono (le_refl _) (le_refl _) (le_refl _) h) (noise-number-mono (le_refl _) (le_refl _) (le_refl _) h)

  -- .. and its samples: "a plane's black moves only that plane's samples"
  pub sample-stays : (row column : ℕ) → black_of (blackened m black).tuning (row % 2) (column % 2) ≡ black_of m.tuning (row % 2) (column % 2) → output_at s' row column ≡ output_at s row column
  unfolding scene_at output_at plane_output tile_here tile_difference reference_tile other_tile
  sample-stays row column same =
      ap (λ tiles. filtered_sample s.side (row / 2 % s.side.half) (column / 2 % s.side.half) s.others tiles (pos (plane_of s.reference (row % 2) (column % 2) (row / 2) (column / 2))))
      (fun_ext (λ t. let a = tile_over s.side (row / 2) (t / 2) in
      let b = tile_over s.side (column / 2) (t % 2) in
      ap₂ (λ noise spatial. record { noise = noise; spatial = spatial; reference = λ i j. pos (reference_tile s (row % 2) (column % 2) a b i j); differences = tile_difference s (row % 2) (column % 2) a b })
      (noise-stays (row % 2) (column % 2) same a b) (spatial-stays (row % 2) (column % 2) same a b)))

  -- word for word
  pub word-stays : (k : ℕ) → k < m.shape.width * m.shape.height →
      black_of (blackened m black).tuning (k / m.shape.width % 2) (k % m.shape.width % 2) ≡ black_of m.tuning (k / m.shape.width % 2) (k % m.shape.width % 2) → get_or (merged s') k 0 ≡ get_or (merged s) k 0
  unfolding merged word_at scene_at
  word-stays k h same =
      get_d-tab (word_at s') 0 (m.shape.width * m.shape.height) k h
      ∙ ap nat_abs (sample-stays (k / m.shape.width) (k % m.shape.width) same)
      ∙ sym (get_d-tab (word_at s) 0 (m.shape.width * m.shape.height) k h)

-- a level that no sample of a tile exceeds: r is 0
pub dark-root : (n black : ℕ) (tile : ℕ → ℕ → ℕ) → ((i j : ℕ) → i < n → j < n → tile i j ≤ black) → tile_root n black tile ≡ 0
dark-root n black tile h = omega (arith, tile-root-bound n black 0 tile (λ i j k l. omega (arith, h i j k l)))
