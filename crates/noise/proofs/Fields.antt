-- What a float's sign, exponent field and fraction say of its value times 1024, cut to a whole number: a shift of the digits.
use Rattle.std.specs.Prelude.{◌≡◌, ◌||◌, ◌+◌, ◌-◌, ◌*◌, ◌/◌, ◌%◌, ◌^◌, ◌≤◌, ◌<◌}
use Rattle.noise.specs.Prelude.{refl, sym, ap, subst, ◌∙◌, Bool, true, false, not, cond, ℕ, zero, suc, arith, Float, nan, inf, fin, binary64, up, down, odd, fits, of_bits, of_fields, to_bits}
use native.Mathlib.Nat.{zero-mul, mul_assoc, mul_left_comm, mul_right_comm, mul-le-mul_right, le_of_mul-le-mul_right, div-eq_of_lt, lt_of_lt_of_le, le_trans, mod-lt, lt_of_not-le, not-le_of_lt, mul-le-mul}
use lib.Bits.{bit_and, bit_or, and_mask, or_shifted_r}
use lib.Pow.{pow_pos, pow_mono, pow-add, shl-shr, shr-shr, field}
use lib.Dec.{T, leb, eqb, leb→le, eqb→eq, lit<, lit≤}
use mathlib.Core.Bool.{false≢true}
use lib.Ieee.Bits.{of_bits-to_bits}
use lib.Ieee.Exact.{HasValue, odd_sign}
use lib.Ieee.Fits.{down_pos, and_l, and_r}
use lib.Ieee.Nearest.{div_same}
use Rattle.noise.specs.Level.{floor1024}
use Rattle.noise.specs.Within.{within}

-- ---- of a value a / 2 ^ l

floor-of : (v : Float) (s : Bool) (a l : ℕ) → HasValue v s a (2 ^ l) → floor1024 v ≡ 1024 * a / 2 ^ l
floor-of nan s a l h = absurd h
floor-of (inf t) s a l h = absurd h
floor-of (fin t m e) s a l h =
    div_same (1024 * (m * up e)) (down e) (1024 * a) (2 ^ l) (down_pos e) (pow_pos l)
    (mul_assoc 1024 (m * up e) (2 ^ l) ∙ ap (λ (n : ℕ). 1024 * n) h.1 ∙ sym (mul_assoc 1024 a (down e)))

bound_of : (k : ℕ) (v : Float) (s : Bool) (a l : ℕ) → HasValue v s a (2 ^ l) → T (within k v) → a ≤ k * 2 ^ l
bound_of k nan s a l h w = absurd h
bound_of k (inf t) s a l h w = absurd h
bound_of k (fin t m e) s a l h w =
    let small : m * up e ≤ k * down e = leb→le _ _ (and_r (not t || eqb m 0) _ w) in
    let wide : m * up e * 2 ^ l ≤ k * down e * 2 ^ l = mul-le-mul_right (2 ^ l) small in
    le_of_mul-le-mul_right {k = down e} (subst (λ (n : ℕ). n ≤ k * 2 ^ l * down e) h.1 (subst (λ (n : ℕ). m * up e * 2 ^ l ≤ n) (mul_right_comm k (down e) (2 ^ l)) wide)) (down_pos e)

-- of the values from 0 on, a negative one is zero
zero_of : (v : Float) (s : Bool) (a l : ℕ) → HasValue v s a (2 ^ l) → T (within 4096 v) → s ≡ true → floor1024 v ≡ 0
zero_of nan s a l h w g = absurd h
zero_of (inf t) s a l h w g = absurd h
zero_of (fin t m e) s a l h w g = by t (h.0 ∙ g) (and_l (not t || eqb m 0) _ w)
  where
    by : (t : Bool) → t ≡ true → T (not t || eqb m 0) → 1024 * (m * up e) / down e ≡ 0
    by false p z = absurd (false≢true p)
    by true p z =
        let none : m * up e ≡ 0 = ap (λ n. n * up e) (eqb→eq m 0 z) ∙ zero-mul (up e) in
        div-eq_of_lt {n = 1024 * (m * up e)} {m = down e} (omega (arith, none, down_pos e))

shift : (q k j : ℕ) → 1024 * (q * 2 ^ k) / 2 ^ (10 + k + j) ≡ q / 2 ^ j
shift q k j =
    let n : 1024 * (q * 2 ^ k) ≡ q * 2 ^ (10 + k) = mul_left_comm 1024 q (2 ^ k) ∙ ap (λ (p : ℕ). q * p) (sym (pow-add 2 10 k)) in
    ap (λ (p : ℕ). p / 2 ^ (10 + k + j)) n ∙ sym (shr-shr (q * 2 ^ (10 + k)) (10 + k) j) ∙ ap (λ (p : ℕ). p / 2 ^ j) (shl-shr q (10 + k))

shift-to : (q k j l : ℕ) → 10 + k + j ≡ l → 1024 * (q * 2 ^ k) / 2 ^ l ≡ q / 2 ^ j
shift-to q k j l e = subst (λ (n : ℕ). 1024 * (q * 2 ^ k) / 2 ^ n ≡ q / 2 ^ j) e (shift q k j)

-- ---- by the sign s, the exponent field x and the fraction t

pub record Told (v : Float) (s : Bool) (x t : ℕ) : Type 0 where
  pub negative : s ≡ true → floor1024 v ≡ 0
  pub top : x ≤ 1035
  pub low : x < 1013 → floor1024 v ≡ 0
  pub high : 1013 ≤ x → floor1024 v ≡ (2 ^ 52 + t) / 2 ^ (1065 - x)

subnormal : (v : Float) (s : Bool) (t : ℕ) → t < 2 ^ 52 → T (within 4096 v) → HasValue v s (t * 2 ^ 0) (2 ^ 1074) → Told v s 0 t
subnormal v s t ht w h = record {
  negative = zero_of v s _ 1074 h w;
  top = omega arith;
  low = λ _. floor-of v s (t * 2 ^ 0) 1074 h ∙ shift-to t 0 1064 1074 refl ∙ div-eq_of_lt (lt_of_lt_of_le ht (pow_mono {i = 52} {j = 1064} (lit≤ tt)));
  high = λ g. absurd (none g);
}
  where
    none : 1013 ≤ 0 → ⊥
    none g = omega arith

-- 4096 * 2 ^ 1074 < 2 ^ 52 * 2 ^ 1035
over-top : (t x : ℕ) → (2 ^ 52 + t) * 2 ^ x ≤ 4096 * 2 ^ 1074 → 1035 ≤ x → ⊥
over-top t x h g =
    let least : 2 ^ 52 * 2 ^ 1035 ≤ (2 ^ 52 + t) * 2 ^ x = mul-le-mul {n₁ = 2 ^ 52} {m₁ = 2 ^ 1035} (omega arith) (pow_mono g) in
    let m : 4096 * 2 ^ 1074 < 2 ^ 52 * 2 ^ 1035 = lit< tt in
    not-le_of_lt m (le_trans least h)

normal : (v : Float) (s : Bool) (x t : ℕ) → t < 2 ^ 52 → T (within 4096 v) → HasValue v s ((2 ^ 52 + t) * 2 ^ x) (2 ^ 1074) → Told v s (suc x) t
normal v s x t ht w h =
    let top : suc x ≤ 1035 = lt_of_not-le (over-top t x (bound_of 4096 v s _ 1074 h w)) in
    record {
      negative = zero_of v s _ 1074 h w;
      top = top;
      low = λ g. floor-of v s _ 1074 h ∙ shift-to (2 ^ 52 + t) x (1064 - x) 1074 (omega arith) ∙ div-eq_of_lt (lt_of_lt_of_le {m = 2 ^ 53} (omega arith) (pow_mono {i = 53} {j = 1064 - x} (omega arith)));
      high = λ g. floor-of v s _ 1074 h ∙ shift-to (2 ^ 52 + t) x (1065 - suc x) 1074 (omega arith);
    }

fields : (s : Bool) (x t : ℕ) → t < 2 ^ 52 → T (within 4096 (of_fields binary64 s x t)) → Told (of_fields binary64 s x t) s x t
unfolding of_fields
fields s zero t ht w = subnormal _ s t ht w (odd_sign 53 s t 0 1074)
fields s (suc x) t ht w = go (eqb (suc x) 2047) w
  where
    go : (b : Bool) → T (within 4096 (cond b (cond (eqb t 0) (inf s) nan) (odd 53 s (2 ^ 52 + t) x 1074))) → Told (cond b (cond (eqb t 0) (inf s) nan) (odd 53 s (2 ^ 52 + t) x 1074)) s (suc x) t
    go false w = normal _ s x t ht w (odd_sign 53 s (2 ^ 52 + t) x 1074)
    go true w = absurd (never (eqb t 0) w)
      where
        never : (b : Bool) → T (within 4096 (cond b (inf s) nan)) → ⊥
        never true w = w
        never false w = w

-- ---- by the 64 bits

pub told : (x : Float) → T (fits binary64 x) → T (within 4096 x) → Told x (leb (2 ^ 63) (to_bits binary64 x)) (bit_and (to_bits binary64 x / 2 ^ 52) 2047) (to_bits binary64 x % 2 ^ 52)
unfolding of_bits
told x f w =
    let b = to_bits binary64 x in
    let e : of_bits binary64 b ≡ x = of_bits-to_bits binary64 x f in
    let m : b % 2 ^ 63 / 2 ^ 52 ≡ bit_and (b / 2 ^ 52) 2047 = field b 11 52 ∙ sym (and_mask (b / 2 ^ 52) 11) in
    subst (λ (v : Float). Told v (leb (2 ^ 63) b) (bit_and (b / 2 ^ 52) 2047) (b % 2 ^ 52)) e
    (subst (λ (n : ℕ). Told (of_bits binary64 b) (leb (2 ^ 63) b) n (b % 2 ^ 52)) m
    (fields (leb (2 ^ 63) b) (b % 2 ^ 63 / 2 ^ 52) (b % 2 ^ 52) (mod-lt b (pow_pos 52)) (subst (λ (v : Float). T (within 4096 v)) (sym e) w)))

-- the digits with the leading one
pub joined : (b j : ℕ) → bit_or (bit_and b (2 ^ 52 - 1)) (2 ^ 52) / 2 ^ j ≡ (2 ^ 52 + b % 2 ^ 52) / 2 ^ j
joined b j = ap (λ (n : ℕ). n / 2 ^ j) (ap (λ (n : ℕ). bit_or n (2 ^ 52)) (and_mask b 52) ∙ or_shifted_r 1 52 (b % 2 ^ 52) (mod-lt b (pow_pos 52)))
