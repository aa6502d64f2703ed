-- Inside the crates of the merge: the Wiener step in double, as the code works it out. Each operation is rounded once.
use Rattle.std.specs.Prelude.{◌≡◌, ◌∷◌}
use Rattle.tile_bin.specs.Prelude.{true, List, [], ℕ, get_or, ℤ, pos, Float, nan, binary64, add, sub, mul, div, of_int, to_signed, middle, wiener}
use Rattle.algebra.specs.Prelude.{cond, eqb}
use Rattle.floats.specs.ProductLaws.{fraction}
use Rattle.floats.specs.QuotientLaws.{certain}

-- the whole number nearest to x
unfoldable pub nearest_whole : Float → Float
nearest_whole x = sub binary64 (add binary64 x middle) middle

-- |Q|² + V
unfoldable pub power_in : (v q r : Float) → Float
power_in v q r = add binary64 (add binary64 (mul binary64 q q) (mul binary64 r r)) v

-- ---- for any side, whose quantum is 2^k

-- one part of Q, from that part of B
unfoldable pub quantized_by : ℕ → Float → Float
quantized_by k b = nearest_whole (mul binary64 b (fraction k))

-- the quotients V·q/(|Q|² + V) of both parts of a bin, slightly more, from those of B; w is V, slightly more
unfoldable pub quotients_by : (k : ℕ) (v w a b : Float) → List Float
quotients_by k v w a b =
    let q = quantized_by k a in
    let r = quantized_by k b in
    let g = div binary64 w (power_in v q r) in
    mul binary64 q g ∷ mul binary64 r g ∷ []

-- both parts of G
unfoldable pub gains_by : (k : ℕ) (v w a b : Float) → List Float
gains_by k v w a b =
    let x = quotients_by k v w a b in
    nearest_whole (get_or x 0 nan) ∷ nearest_whole (get_or x 1 nan) ∷ []

-- both are G's without a doubt
pub record SureBy (k : ℕ) (v w a b : Float) : Type 0 where
  pub first : certain (get_or (quotients_by k v w a b) 0 nan) ≡ true
  pub second : certain (get_or (quotients_by k v w a b) 1 nan) ≡ true

-- G at a bin that is real: the other part is 0
unfoldable pub real_gain_by : (k : ℕ) (v w a : Float) → Float
real_gain_by k v w a = get_or (gains_by k v w a (of_int binary64 (pos 0))) 0 nan

-- with quotients in whole numbers: one part of Q, from that part of B
unfoldable pub whole_quantized_by : ℕ → Float → ℤ
whole_quantized_by k b = to_signed 63 (quantized_by k b)

-- and both parts of G at a bin, from those of B
unfoldable pub exact_gains_by : (k noise : ℕ) (a b : Float) → List Float
exact_gains_by k noise a b =
    let q = whole_quantized_by k a in
    let r = whole_quantized_by k b in
    of_int binary64 (wiener noise q r) ∷ of_int binary64 (wiener noise r q) ∷ []

-- ---- at side n, 32 or else 16

-- the quantum is 2^24, and 2^26 at side 32
abbrev pub bits_of : ℕ → ℕ
bits_of n = cond (eqb n 32) 26 24

abbrev pub quantized_in : (n : ℕ) → Float → Float
quantized_in n = quantized_by (bits_of n)

abbrev pub quotients_in : (n : ℕ) (v w a b : Float) → List Float
quotients_in n = quotients_by (bits_of n)

abbrev pub gains_in : (n : ℕ) (v w a b : Float) → List Float
gains_in n = gains_by (bits_of n)

abbrev pub Sure : (n : ℕ) (v w a b : Float) → Type 0
Sure n = SureBy (bits_of n)

abbrev pub real_gain_in : (n : ℕ) (v w a : Float) → Float
real_gain_in n = real_gain_by (bits_of n)

abbrev pub whole_quantized : (n : ℕ) → Float → ℤ
whole_quantized n = whole_quantized_by (bits_of n)

abbrev pub exact_gains_in : (n noise : ℕ) (a b : Float) → List Float
exact_gains_in n = exact_gains_by (bits_of n)
