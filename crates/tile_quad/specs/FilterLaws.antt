-- Two planes side by side, all quads of which were replaced by those of G: both folded.
use Rattle.tile_quad.specs.Prelude.{refl, sym, ap, ap₂, ◌∙◌, Bool, true, false, cond, List, ℕ, zero, suc, arith, eqb, ℤ, Float, nan, cell, either, quad_places}
use Rattle.std.specs.Prelude.{map, ◌≡◌, ◌+◌, ◌*◌, ◌/◌, ◌%◌, ◌≤◌, ◌<◌}
use Rattle.std.proofs.Common.{zero-le, mul-le-mul_left}
use Rattle.sequences.specs.Grid.{grid}
use Rattle.recipe.specs.Side.{Side}
use Rattle.tile_spectrum.specs.Spectrum.{folded_gain}
use Rattle.tile_spectrum.specs.Pairs.{by_columns, pair_gains}
use Rattle.tile_spectrum.specs.QuadLaws.{four}
use Rattle.tile_quad.specs.Lanes.{quad_at_of, place_of, LanesOf}
use Rattle.tile_quad.specs.LaneLaws.{quads-ext, quad-grid}
use Rattle.tile_quad.specs.QuadGains.{double}

-- what goes with either plane
pub either-of : {A B : Type 0} (f : A → B) (x y : A) (p : ℕ) → either (f x) (f y) p ≡ f (either x y p)
either-of f x y p = go (eqb p 0)
  where
    go : (c : Bool) → cond c (f x) (f y) ≡ f (cond c x y)
    go true = refl
    go false = refl

-- of the plane of each lane
pub by-plane : (P : ℕ → Type 0) → P 0 → P 1 → (l : ℕ) → P (l % 2)
by-plane P a b l = go (l % 2) (omega arith)
  where
    go : (p : ℕ) → p < 2 → P p
    go zero h = a
    go (suc zero) h = b
    go (suc (suc p)) h = absurd (omega arith)

module _ (s : Side) where
  abbrev half : ℕ
  half = s.half

  -- a pair of whole numbers in double
  abbrev pub doubles_of : (ℕ → ℕ → ℤ) → List (List Float)
  doubles_of t = grid (2 * half) (4 * half) (λ y l. double (t y l))

  -- quad (u, l) of a pair is quad (l / 2, u) of one of its planes
  plane-quad : (t : ℕ → ℕ → ℕ → ℤ) (u l : ℕ) → quad_at_of half (λ y l. double (by_columns t y l)) u l ≡ map double (quad_places s (t (l % 2)) (l / 2) u)
  unfolding quad_at_of quad_places
  plane-quad t u l = four refl refl (high u) (high (half + u))
    where
      high : (y : ℕ) → double (t ((2 * half + l) % 2) ((2 * half + l) / 2) y) ≡ double (t (l % 2) (half + l / 2) y)
      high y = ap₂ (λ p k. double (t p k y)) (omega arith) (omega arith)

  -- places end at 2·half²
  pub place-below : (u l : ℕ) → u < half → l < 2 * half → place_of half u l < 2 * half * half
  place-below u l h k = let m : 2 * half * (u + 1) ≤ 2 * half * half = mul-le-mul_left (2 * half) (omega arith) in omega arith

  module _ (first second : ℕ) (t : ℕ → ℕ → ℕ → ℤ) where
    -- f makes quads of the folded G of those of B
    pub record Gains (f : (u l : ℕ) → List Float → List Float) : Type 0 where
      pub quad : (u l : ℕ) → u < half → l < 2 * half → f u l (map double (quad_places s (t (l % 2)) (l / 2) u)) ≡ map double (quad_places s (folded_gain s (either first second (l % 2)) (t (l % 2))) (l / 2) u)

    -- quad (u, l) of B
    pub quad-of : {b : List (List Float)} → b ≡ doubles_of (by_columns t) → (u l : ℕ) → u < half → l < 2 * half → quad_at_of half (cell nan b) u l ≡ map double (quad_places s (t (l % 2)) (l / 2) u)
    quad-of e u l h k = quad-grid nan half _ e u l h k ∙ plane-quad t u l

    pub pair-filtered : {f : (u l : ℕ) → List Float → List Float} → Gains f → {Pair : List (List Float) → Type 0} {b r : List (List Float)} → LanesOf half Pair f 0 (2 * half * half) b r → r ≡ grid (2 * half) (4 * half) (cell nan r) → b ≡ doubles_of (by_columns t) → r ≡ doubles_of (pair_gains s first second t)
    pair-filtered {f} g {b = b} {r} n p e =
        p
        ∙ quads-ext nan half (cell nan r) (λ y l. double (pair_gains s first second t y l))
        (λ u l h k. n.new u l h k zero-le (place-below u l h k) ∙ ap (f u l) (quad-of e u l h k) ∙ g.quad u l h k ∙ sym (plane-quad (λ p. folded_gain s (either first second p) (t p)) u l))
