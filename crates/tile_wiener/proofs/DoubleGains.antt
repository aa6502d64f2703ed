-- Quads of G with quotients in double are those of the folded G where these are certain, and V and W of each lane are those of its plane.
use Rattle.std.specs.Prelude.{◌≡◌, ◌*◌, ◌/◌, ◌%◌, ◌≤◌, ◌<◌}
use Rattle.tile_wiener.specs.Prelude.{ap, subst, ◌∙◌, List, ℕ, arith, lit<, refl, true, get_or, ℤ, pos, Float, nan, cell, either, SureBy, number_of, bins_in}
use mathlib.Core.List.{map}
use Prim.Native.Nat.{zero-le}
use Rattle.sequences.specs.Tab.{tab}
use Rattle.sequences.specs.TabLaws.{get_d-tab}
use Rattle.geometry.specs.Fits.{TileSide}
use Rattle.recipe.specs.Side.{Side}
use Rattle.recipe.specs.Tables.{side16}
use Rattle.recipe.specs.Tables32.{side32}
use Rattle.tile_spectrum.specs.Magnitudes.{noise_most}
use Rattle.tile_spectrum.specs.Spectrum.{quad_places, two_bins_of, folded_gain}
use Rattle.tile_spectrum.specs.Pairs.{doubles, by_columns}
use Rattle.tile_spectrum.specs.LongPairs.{long_doubles}
use Rattle.tile_bin.specs.DoubleLaws.{weight, Quanta, quanta16, quanta32, gains-are, real-gain-is}
use Rattle.tile_quad.specs.Lanes.{quad_at_of, place}
use Rattle.tile_quad.specs.AtSide.{GainsAt}
use Rattle.tile_quad.specs.AtSideLaws.{by-side}
use Rattle.tile_quad.specs.QuadGains.{double, BinsFit, bins-fit, long-bins-fit, SmallBins, small-bins, long-small-bins, bin-is, quad-gains}
use Rattle.tile_quad.specs.FilterLaws.{either-of, by-plane, doubles_of, place-below, Gains, quad-of, pair-filtered}
use Rattle.tile_wiener.specs.DoubleQuads.{double_quad, new_quad_by, SureQuadBy, SureQuadsOf, Shrunk}

-- what is known of a plane and its noise number
pub record Known (s : Side) (most v : ℕ) (t : ℕ → ℕ → ℤ) : Type 0 where
  pub above : 0 < v
  pub v_most : v ≤ noise_most
  pub small : SmallBins s most t

module _ {s : Side} {most bits : ℕ} (fit : BinsFit s most) (quanta : Quanta s bits most) where
  -- a quad of a tile
  module _ (v : ℕ) (t : ℕ → ℕ → ℤ) (known : Known s most v t) (k u : ℕ) (h : k < s.half) (l : u < s.half) where
    abbrev bin : ℕ → ℤ
    bin i = get_or (two_bins_of s t k u) i (pos 0)

    abbrev quad : List Float
    quad = map double (quad_places s t k u)

    -- its bins' quotients, in terms of the bins
    abbrev Certain : (a b : Float) → Type 0
    Certain = SureBy bits (double (pos v)) (weight v)

    sure-first : (i : ℕ) → i < 4 → {b : Float} → Certain (number_of (bins_in k u quad) i) b → Certain (double (bin i)) b
    sure-first i o {b} c = subst (λ a. Certain a b) (bin-is fit t known.small k u h l i o) c

    sure-both : (i j : ℕ) → i < 4 → j < 4 → Certain (number_of (bins_in k u quad) i) (number_of (bins_in k u quad) j) → Certain (double (bin i)) (double (bin j))
    sure-both i j o p c = sure-first i o (subst (λ b. Certain (number_of (bins_in k u quad) i) b) (bin-is fit t known.small k u h l j p) c)

    pub double-gains : SureQuadBy bits (double (pos v)) (weight v) k u quad → double_quad bits (double (pos v)) (weight v) k u quad ≡ map double (quad_places s (folded_gain s v t) k u)
    unfolding double_quad
    double-gains c =
        let part = known.small.part k u h l in
        quad-gains fit t known.small v _ _ k u h l (λ e i o. real-gain-is quanta v known.above known.v_most (bin i) (part i) (sure-first i o (c.corner e i o)))
        (λ o. (gains-are quanta v known.above known.v_most (bin 0) (bin 1) (part 0) (part 1) (sure-both 0 1 (lit< tt) (lit< tt) (c.others o).0), gains-are quanta v known.above known.v_most (bin 2) (bin 3) (part 2) (part 3) (sure-both 2 3 (lit< tt) (lit< tt) (c.others o).1)))

  -- all quads of a pair
  module _ (first second : ℕ) (t : ℕ → ℕ → ℕ → ℤ) where
    abbrev noise : ℕ → ℕ
    noise = either first second

    pub double-quads : Known s most first (t 0) → Known s most second (t 1) → {v w : List Float} → v ≡ tab (2 * s.half) (λ l. either (double (pos first)) (double (pos second)) (l % 2)) → w ≡ tab (2 * s.half) (λ l. either (weight first) (weight second) (l % 2)) → {b : List (List Float)} → b ≡ doubles_of s (by_columns t) → SureQuadsOf s.half bits v w 0 (2 * s.half * s.half) b → Gains s first second t (new_quad_by bits v w)
    unfolding new_quad_by
    double-quads q q' {v} {w} V' W' {b} e c =
        record { quad = λ u l h k. rw (noise-at l k, weight-at l k) (double-gains (noise (l % 2)) (t (l % 2)) (by-plane (λ p. Known s most (noise p) (t p)) q q' l) (l / 2) u (omega arith) h (sure-at u l h k)) }
      where
        noise-at : (l : ℕ) → l < 2 * s.half → get_or v l nan ≡ double (pos (noise (l % 2)))
        noise-at l k = ap (λ v. get_or v l nan) V' ∙ get_d-tab _ nan (2 * s.half) l k ∙ either-of (λ n. double (pos n)) first second (l % 2)

        weight-at : (l : ℕ) → l < 2 * s.half → get_or w l nan ≡ weight (noise (l % 2))
        weight-at l k = ap (λ w. get_or w l nan) W' ∙ get_d-tab _ nan (2 * s.half) l k ∙ either-of weight first second (l % 2)

        sure-at : (u l : ℕ) → u < s.half → l < 2 * s.half → SureQuadBy bits (double (pos (noise (l % 2)))) (weight (noise (l % 2))) (l / 2) u (map double (quad_places s (t (l % 2)) (l / 2) u))
        sure-at u l h k =
            subst (SureQuadBy bits (double (pos (noise (l % 2)))) (weight (noise (l % 2))) (l / 2) u) (quad-of s first second t e u l h k)
            (subst (λ x. SureQuadBy bits x (weight (noise (l % 2))) (l / 2) u (quad_at_of s.half (cell nan b) u l)) (noise-at l k)
            (subst (λ y. SureQuadBy bits (get_or v l nan) y (l / 2) u (quad_at_of s.half (cell nan b) u l)) (weight-at l k) (c.quad u l h k zero-le (place-below s u l h k))))

-- ---- of a side's bins

pub filtered-at : {n : ℕ} → TileSide n → (first second : ℕ) → 0 < first → 0 < second → first ≤ noise_most → second ≤ noise_most → {v w : List Float} → (b r : List (List Float)) →
    v ≡ tab n (λ l. either (double (pos first)) (double (pos second)) (l % 2)) → w ≡ tab n (λ l. either (weight first) (weight second) (l % 2)) → Shrunk n true v w (place n 0 0) (n * (n / 2)) b r → GainsAt n first second b r
unfolding side16 side32 doubles long_doubles
filtered-at t first second i j k l {v} {w} b r =
    by-side t
    (λ n. v ≡ tab n (λ l. either (double (pos first)) (double (pos second)) (l % 2)) → w ≡ tab n (λ l. either (weight first) (weight second) (l % 2)) → Shrunk n true v w (place n 0 0) (n * (n / 2)) b r → GainsAt n first second b r)
    (λ V W all d.
    pair-filtered side16 first second d.plane
    (double-quads bins-fit quanta16 first second d.plane (record { above = i; v_most = k; small = small-bins d.first }) (record { above = j; v_most = l; small = small-bins d.second }) V W d.is (all.sure refl)) all.new all.new.paired.is d.is)
    (λ V W all d.
    pair-filtered side32 first second d.plane
    (double-quads long-bins-fit quanta32 first second d.plane (record { above = i; v_most = k; small = long-small-bins d.first }) (record { above = j; v_most = l; small = long-small-bins d.second }) V W d.is (all.sure refl)) all.new all.new.paired.is d.is)
