-- The Wiener step in double gives the recipe's whole numbers where its quotients are certain: B is below 5·2^49, and |Q|² + V at most 2^53.
use Rattle.std.specs.Prelude.{◌≡◌, ◌∷◌, ◌+◌, ◌*◌, ◌/◌, ◌^◌, ◌≤◌, ◌<◌}
use Rattle.tile_bin.specs.Prelude.{refl, sym, ap, ap₂, subst, ◌∙◌, Bool, true, false, [], ℕ, arith, lit≤, lit<, get_or, ℤ, pos, nat_abs, Float, nan, binary64, of_int, mul, div, unlike, away, side16, power, quantized, wiener, filtered, bin_most, long_bin_most, gain_most, noise_most}
use Rattle.std.proofs.Math.Nat.{le_trans}
use Rattle.std.proofs.Common.{lt_of_le_of_lt, mul-le-mul, add-le-add}
use Prim.Native.Nat.{zero-le}
use Rattle.floats.specs.Wholes.{Whole, negative, whole_of, whole-product, whole_sum}
use Rattle.floats.specs.QuotientLaws.{slightly_more, certain, quotient-again}
use Rattle.floats.specs.ProductLaws.{product-away}
use Rattle.algebra.specs.Prelude.{cond, eqb}
use Rattle.geometry.specs.Fits.{TileSide}
use Rattle.recipe.specs.Side.{Side}
use Rattle.recipe.specs.Sides.{side_of}
use Rattle.recipe.specs.SideLaws.{by-table}
use Rattle.recipe.specs.Tables32.{side32}
use Rattle.tile_spectrum.specs.RoundingLaws.{away-most}
use Rattle.tile_spectrum.specs.WienerLaws.{wiener-is}
use Rattle.tile_bin.specs.Doubles.{bits_of, nearest_whole, power_in, quantized_by, quotients_by, gains_by, SureBy, real_gain_by}

-- ---- Q

-- a side whose quantum is 2^k, and whose parts of B are at most `most`, so that those of Q are at most gain_most
pub record Quanta (s : Side) (k most : ℕ) : Type 0 where
  pub quantum_is : s.quantum ≡ 2 ^ k
  pub k_above : 1 < k
  pub k_most : k ≤ 900
  pub below : most < 5 * 2 ^ 49
  pub parts : (2 * most + s.quantum) / (2 * s.quantum) ≤ gain_most

pub quanta16 : Quanta side16 24 bin_most
unfolding side16
quanta16 = record { quantum_is = refl; k_above = lit< tt; k_most = lit≤ tt; below = lit< tt; parts = lit≤ tt }

pub quanta32 : Quanta side32 26 long_bin_most
unfolding side32
quanta32 = record { quantum_is = refl; k_above = lit< tt; k_most = lit≤ tt; below = lit< tt; parts = lit≤ tt }

-- those of a side
pub quanta-at : {n : ℕ} → TileSide n → Quanta (side_of n) (bits_of n) (cond (eqb n 32) long_bin_most bin_most)
quanta-at t = by-table t (λ n s. Quanta s (bits_of n) (cond (eqb n 32) long_bin_most bin_most)) quanta16 quanta32

module _ {s : Side} {k bins : ℕ} (f : Quanta s k bins) (b : ℤ) (most : nat_abs b ≤ bins) where
  pub quantized-is : quantized_by k (of_int binary64 b) ≡ of_int binary64 (quantized s b)
  unfolding quantized_by nearest_whole quantized
  quantized-is =
      product-away b k (lt_of_le_of_lt most f.below) f.k_above f.k_most ∙ ap (λ m. of_int binary64 (away b m)) (sym f.quantum_is)

  pub quantized-most : nat_abs (quantized s b) ≤ gain_most
  unfolding quantized
  quantized-most = le_trans (away-most b s.quantum bins s.quantum_above most) f.parts

-- ---- |Q|² + V

like : (s : Bool) → unlike s s ≡ false
like true = refl
like false = refl

square : (z : ℤ) → nat_abs z ≤ gain_most → Whole (mul binary64 (of_int binary64 z) (of_int binary64 z)) false (nat_abs z * nat_abs z)
square z h =
    let w = whole_of binary64 z (omega arith) in
    subst (λ s. Whole (mul binary64 (of_int binary64 z) (of_int binary64 z)) s (nat_abs z * nat_abs z)) (like (negative z)) (whole-product binary64 w w (le_trans (mul-le-mul h h) (lit≤ tt)))

-- V, slightly more
abbrev pub weight : ℕ → Float
weight v = mul binary64 (of_int binary64 (pos v)) slightly_more

module _ (v : ℕ) (q r : ℤ) (above : 0 < v) (small : v ≤ noise_most) (first : nat_abs q ≤ gain_most) (second : nat_abs r ≤ gain_most) where
  power-most : power v q r ≤ 2 ^ 53
  power-most = le_trans (add-le-add (add-le-add (mul-le-mul first first) (mul-le-mul second second)) small) (lit≤ tt)

  power-is : Whole (power_in (of_int binary64 (pos v)) (of_int binary64 q) (of_int binary64 r)) false (power v q r)
  unfolding power_in
  power-is =
      whole_sum binary64 (whole_sum binary64 (square q first) (square r second) refl (omega (arith, power-most))) (whole_of binary64 (pos v) (omega arith)) refl power-most

  quotient-most : v * nat_abs q ≤ 2 ^ 48 * power v q r
  quotient-most =
      let l : v ≤ power v q r = omega arith in
      let m : nat_abs q ≤ 2 ^ 48 = omega arith in
      le_trans (mul-le-mul l m) (omega arith)

  -- G from a divisor that is the power
  gain-is : {d : Float} → Whole d false (power v q r) → certain (mul binary64 (of_int binary64 q) (div binary64 (weight v) d)) ≡ true → nearest_whole (mul binary64 (of_int binary64 q) (div binary64 (weight v) d)) ≡ of_int binary64 (wiener v q r)
  unfolding nearest_whole
  gain-is p h =
      quotient-again (whole_of binary64 (pos v) (omega arith)) p above (omega arith) (omega arith) power-most q (omega arith) quotient-most h
      ∙ ap (of_int binary64) (sym (wiener-is v q r above))

-- ---- G

power-swapped : {d : Float} (v : ℕ) (q r : ℤ) → Whole d false (power v q r) → Whole d false (power v r q)
power-swapped {d} v q r p =
    let e : power v q r ≡ power v r q = omega arith in
    subst (λ n. Whole d false n) e p

module _ {s : Side} {k bins : ℕ} (f : Quanta s k bins) (v : ℕ) (above : 0 < v) (small : v ≤ noise_most) where
  abbrev v' : Float
  v' = of_int binary64 (pos v)

  module _ (a b : ℤ) (m : nat_abs a ≤ bins) (n : nat_abs b ≤ bins) where
    abbrev q : ℤ
    q = quantized s a

    abbrev r : ℤ
    r = quantized s b

    abbrev ratio : Float
    ratio = div binary64 (weight v) (power_in v' (of_int binary64 q) (of_int binary64 r))

    quotients-are : quotients_by k v' (weight v) (of_int binary64 a) (of_int binary64 b) ≡ mul binary64 (of_int binary64 q) ratio ∷ mul binary64 (of_int binary64 r) ratio ∷ []
    unfolding quotients_by
    quotients-are = rw (quantized-is f a m, quantized-is f b n) refl

    pub gains-are : SureBy k v' (weight v) (of_int binary64 a) (of_int binary64 b) → gains_by k v' (weight v) (of_int binary64 a) (of_int binary64 b) ≡ of_int binary64 (filtered s v a b) ∷ of_int binary64 (filtered s v b a) ∷ []
    unfolding gains_by filtered
    gains-are c =
        let l = quantized-most f a m in
        let o = quantized-most f b n in
        let p = power-is v q r above small l o in
        ap (λ x. nearest_whole (get_or x 0 nan) ∷ nearest_whole (get_or x 1 nan) ∷ []) quotients-are
        ∙ ap₂ (λ x y. x ∷ y ∷ []) (gain-is v q r above small l o p (subst (λ x. certain (get_or x 0 nan) ≡ true) quotients-are c.first))
        (gain-is v r q above small o l (power-swapped v q r p) (subst (λ x. certain (get_or x 1 nan) ≡ true) quotients-are c.second))

  pub real-gain-is : (a : ℤ) → nat_abs a ≤ bins → SureBy k v' (weight v) (of_int binary64 a) (of_int binary64 (pos 0)) → real_gain_by k v' (weight v) (of_int binary64 a) ≡ of_int binary64 (filtered s v a (pos 0))
  unfolding real_gain_by
  real-gain-is a m c = ap (λ g. get_or g 0 nan) (gains-are a (pos 0) m zero-le c)
