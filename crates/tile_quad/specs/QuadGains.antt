-- A quad of G worked out in double from one of B is, as doubles, that of the folded G: all sums and differences are exact.
use Rattle.tile_quad.specs.Prelude.{refl, sym, ap, subst, ◌∙◌, List, [], ℕ, zero, suc, arith, lit≤, lit<, get_or, length, ℤ, pos, nat_abs, Float, binary64, of_int, by_kind, folded_quad, quad_places, two_bins_of, Binned}
use Rattle.std.specs.Prelude.{map, ◌≡◌, ◌∷◌, ◌+◌, ◌^◌, ◌≤◌, ◌<◌, ◌+ℤ◌, ◌-ℤ◌}
use Prim.Native.Nat.{zero-le}
use Rattle.std.proofs.Math.Nat.{le_trans}
use Rattle.std.proofs.Common.{eq-eqb, ne_eqb}
use Rattle.std.proofs.Math.IntN.{+ℤ_comm}
use Rattle.algebra.specs.Order.{sub-pn, add-pn, abs-pn, min-pn}
use Rattle.sequences.specs.Tab.{tab}
use Rattle.recipe.specs.Side.{Side}
use Rattle.recipe.specs.Tables.{side16}
use Rattle.recipe.specs.Tables32.{side32}
use Rattle.recipe.specs.Correction.{filtered}
use Rattle.floats.specs.Kernels.{var, plus, minus, floats-wholes}
use Rattle.tile_spectrum.specs.Magnitudes.{bin_most, long_bin_most, gain_most}
use Rattle.tile_spectrum.specs.Spectrum.{folded_gain}
use Rattle.tile_spectrum.specs.Turns.{Turns, turns16, turns32}
use Rattle.tile_spectrum.specs.LongPairs.{LongBinned, long-gain-most, long-bins-each}
use Rattle.tile_spectrum.specs.SizeLaws.{gain-most}
use Rattle.tile_spectrum.specs.QuadLaws.{four, four-each, quad_is, corner-is, bins-each}
use Rattle.tile_quad.specs.Lanes.{number_of, bins_in, folded_in, corner_in, fold_in, quad_in, WholeBinsOf}

module _ (real : Float → Float) (gains : (a b : Float) → List Float) (k u : ℕ) (q : List Float) where
  pub quad-corner : k + u ≡ 0 → quad_in real gains k u q ≡ corner_in real q
  unfolding quad_in
  quad-corner e = rw (eq-eqb (k + u) 0 e)

  pub quad-others : 0 < k + u → quad_in real gains k u q ≡ fold_in gains k u (bins_in k u q)
  unfolding quad_in
  quad-others h = rw (ne_eqb (k + u) 0 (λ e. omega arith))

-- whole numbers in double
abbrev pub double : ℤ → Float
double = of_int binary64

number-of : (q : List ℤ) (i : ℕ) → i < length q → number_of (map double q) i ≡ double (get_or q i (pos 0))
number-of [] i h = absurd (omega arith)
number-of (x ∷ q) zero h = refl
number-of (x ∷ q) (suc i) h = number-of q i (omega arith)

-- two numbers are at most m if their difference and their sum are
half : (a b : ℤ) {m : ℕ} → nat_abs (a -ℤ b) ≤ m → nat_abs (a +ℤ b) ≤ m → (nat_abs a ≤ m) × (nat_abs b ≤ m)
half a b p q =
    let d = sub-pn a b in
    let s = add-pn a b in
    (omega (arith, abs-pn a, abs-pn (a -ℤ b), abs-pn (a +ℤ b), min-pn a, min-pn b), omega (arith, abs-pn b, abs-pn (a -ℤ b), abs-pn (a +ℤ b), min-pn a, min-pn b))

-- ---- the fold

folded-is : (k u : ℕ) (a b c d : ℤ) → nat_abs a ≤ gain_most → nat_abs b ≤ gain_most → nat_abs c ≤ gain_most → nat_abs d ≤ gain_most → folded_in k u (double a) (double b) (double c) (double d) ≡ map double (folded_quad k u a b c d)
unfolding folded_in folded_quad by_kind
folded-is zero u a b c d i j m n =
    floats-wholes binary64 (a ∷ b ∷ c ∷ d ∷ []) (four-each (λ z. nat_abs z ≤ gain_most) a b c d zero-le i j m n)
    (plus (var 0) (var 0) ∷ plus (var 1) (var 1) ∷ plus (var 2) (var 2) ∷ plus (var 3) (var 3) ∷ []) tt
folded-is (suc k) zero a b c d i j m n = refl
folded-is (suc k) (suc u) a b c d i j m n =
    floats-wholes binary64 (a ∷ b ∷ c ∷ d ∷ []) (four-each (λ z. nat_abs z ≤ gain_most) a b c d zero-le i j m n)
    (plus (var 0) (var 2) ∷ minus (var 1) (var 3) ∷ plus (var 1) (var 3) ∷ minus (var 2) (var 0) ∷ []) tt

-- ---- the bins

-- the parts of this side's bins are at most `most`, and so they and those of G, and their sums, are whole numbers in double
pub record BinsFit (s : Side) (most : ℕ) : Type 0 where
  pub turns : Turns s
  pub most_fits : most ≤ 2 ^ 52
  pub gain-most : (noise : ℕ) (b c : ℤ) → nat_abs b ≤ most → nat_abs (filtered s noise b c) ≤ gain_most

pub bins-fit : BinsFit side16 bin_most
bins-fit = record { turns = turns16; most_fits = lit≤ tt; gain-most = gain-most }

pub long-bins-fit : BinsFit side32 long_bin_most
long-bins-fit = record { turns = turns32; most_fits = lit≤ tt; gain-most = long-gain-most }

-- those of the plane t are, quad by quad
pub record SmallBins (s : Side) (most : ℕ) (t : ℕ → ℕ → ℤ) : Type 0 where
  pub part : (k u : ℕ) → k < s.half → u < s.half → (i : ℕ) → nat_abs (get_or (two_bins_of s t k u) i (pos 0)) ≤ most

pub small-bins : {t : ℕ → ℕ → ℤ} → Binned t → SmallBins side16 bin_most t
unfolding side16
small-bins {t} b = record { part = bins-each t (λ z. nat_abs z ≤ bin_most) zero-le b.re_most b.im_most }

pub long-small-bins : {t : ℕ → ℕ → ℤ} → LongBinned t → SmallBins side32 long_bin_most t
unfolding side32
long-small-bins {t} b = record { part = long-bins-each t (λ z. nat_abs z ≤ long_bin_most) zero-le b.re_most b.im_most }

bins-four : (s : Side) (t : ℕ → ℕ → ℤ) (k u : ℕ) → length (two_bins_of s t k u) ≡ 4
unfolding two_bins_of by_kind quad_places
bins-four s t zero u = refl
bins-four s t (suc k) zero = refl
bins-four s t (suc k) (suc u) = refl

module _ {s : Side} {most : ℕ} (fit : BinsFit s most) (t : ℕ → ℕ → ℤ) (small : SmallBins s most t) where
  abbrev Bin : (k u i : ℕ) → ℤ
  Bin k u i = get_or (two_bins_of s t k u) i (pos 0)

  bins-are : (k u : ℕ) → k < s.half → u < s.half → bins_in k u (map double (quad_places s t k u)) ≡ map double (two_bins_of s t k u)
  unfolding bins_in two_bins_of by_kind quad_places
  bins-are zero u h l = refl
  bins-are (suc k) zero h l = refl
  bins-are (suc k) (suc u) h l =
      let bin = small.part (suc k) (suc u) h l in
      let a = half (t (suc k) (suc u)) (t (s.half + suc k) (s.half + suc u)) (bin 0) (bin 2) in
      let b = half (t (s.half + suc k) (suc u)) (t (suc k) (s.half + suc u)) (bin 3) (subst (λ z. nat_abs z ≤ most) (+ℤ_comm (t (suc k) (s.half + suc u)) (t (s.half + suc k) (suc u))) (bin 1)) in
      floats-wholes binary64 (quad_places s t (suc k) (suc u)) (λ i. le_trans (four-each (λ z. nat_abs z ≤ most) _ _ _ _ zero-le a.0 b.1 b.0 a.1 i) fit.most_fits)
      (minus (var 0) (var 3) ∷ plus (var 1) (var 2) ∷ plus (var 0) (var 3) ∷ minus (var 2) (var 1) ∷ []) tt

  pub bin-is : (k u : ℕ) → k < s.half → u < s.half → (i : ℕ) → i < 4 → number_of (bins_in k u (map double (quad_places s t k u))) i ≡ double (Bin k u i)
  bin-is k u h l i j = ap (λ q. number_of q i) (bins-are k u h l) ∙ number-of (two_bins_of s t k u) i (omega (arith, bins-four s t k u))

  pub whole-bins : (k u : ℕ) → k < s.half → u < s.half → WholeBinsOf most k u (map double (quad_places s t k u))
  whole-bins k u h l = record { at = λ i j. record { number = Bin k u i; most = small.part k u h l i; is = bin-is k u h l i j } }

  -- ---- G, by any functions that give its doubles at the bins

  module _ (v : ℕ) (real : Float → Float) (gains : (a b : Float) → List Float) where
    abbrev Quad : (k u : ℕ) → List ℤ
    Quad = quad_places s (folded_gain s v t)

    -- at a real bin, and at the two parts of a bin
    abbrev RealAt : (k u i : ℕ) → Type 0
    RealAt k u i = real (double (Bin k u i)) ≡ double (filtered s v (Bin k u i) (pos 0))

    abbrev GainsAt : (k u i j : ℕ) → Type 0
    GainsAt k u i j = gains (double (Bin k u i)) (double (Bin k u j)) ≡ double (filtered s v (Bin k u i) (Bin k u j)) ∷ double (filtered s v (Bin k u j) (Bin k u i)) ∷ []

    others : (k u : ℕ) → k < s.half → u < s.half → 0 < k + u → GainsAt k u 0 1 → GainsAt k u 2 3 → fold_in gains k u (bins_in k u (map double (quad_places s t k u))) ≡ map double (Quad k u)
    unfolding fold_in
    others k u h l o g g' =
        let b = two_bins_of s t k u in
        let bin = Bin k u in
        let long = bins-four s t k u in
        let f = filtered s v in
        let gain : (i j : ℕ) → nat_abs (f (bin i) (bin j)) ≤ gain_most = λ i j. fit.gain-most v (bin i) (bin j) (small.part k u h l i) in
        ap (fold_in gains k u) (bins-are k u h l)
        ∙ rw (number-of b 0 (omega arith), number-of b 1 (omega arith), number-of b 2 (omega arith), number-of b 3 (omega arith), g, g')
        (folded-is k u (f (bin 0) (bin 1)) (f (bin 1) (bin 0)) (f (bin 2) (bin 3)) (f (bin 3) (bin 2)) (gain 0 1) (gain 1 0) (gain 2 3) (gain 3 2))
        ∙ ap (map double) (sym (quad_is fit.turns v t k u h l o))

    corner : ((i : ℕ) → i < 4 → RealAt 0 0 i) → corner_in real (map double (quad_places s t 0 0)) ≡ map double (Quad 0 0)
    unfolding corner_in quad_places two_bins_of by_kind tab
    corner at = four (at 0 (lit< tt)) (at 1 (lit< tt)) (at 2 (lit< tt)) (at 3 (lit< tt)) ∙ ap (map double) (sym (corner-is fit.turns v t))

    pub quad-gains : (k u : ℕ) → k < s.half → u < s.half → (k + u ≡ 0 → (i : ℕ) → i < 4 → RealAt k u i) → (0 < k + u → GainsAt k u 0 1 × GainsAt k u 2 3) → quad_in real gains k u (map double (quad_places s t k u)) ≡ map double (Quad k u)
    quad-gains zero zero h l at g = quad-corner _ _ 0 0 _ refl ∙ corner (at refl)
    quad-gains zero (suc u) h l at g = let e = g (omega arith) in quad-others _ _ 0 (suc u) _ (omega arith) ∙ others 0 (suc u) h l (omega arith) e.0 e.1
    quad-gains (suc k) u h l at g = let e = g (omega arith) in quad-others _ _ (suc k) u _ (omega arith) ∙ others (suc k) u h l (omega arith) e.0 e.1
