-- A curve that passes refusal 8 stays free of NaN and of negative numbers by ISO scaling, since the factors are finite and not negative; it can overflow to infinity.
use Rattle.noise.specs.Prelude.{refl, sym, ap, subst, ◌∙◌, Bool, true, false, not, cond, arith, pos, Float, nan, inf, fin, binary64, up, down, odd, units, round, size, nearest, mul, div, of_int, le, lt, eq}
use Prim.Native.Nat.{ℕ, zero, suc, ◌-◌, ◌*◌, ◌/◌, ◌%◌, ◌^◌, ◌<◌, ◌≤◌, compare}
use Rattle.std.proofs.Common.{mul-one, zero-mul, mul-zero, mul_right_comm, mul-le-mul, mul-le-mul_right, le_of_mul-le-mul_right, le_of_eq, le_of_lt, le_trans, mul-pos, ltb→lt, eqb→eq, lit≤, ltb-false}
use Rattle.std.specs.Prelude.{T, ltb, eqb, ◌≡◌, ◌&&◌, ◌||◌}
use Rattle.std.specs.Float.Ieee.Exact.{HasValue, odd_sign}
use Rattle.std.specs.Float.Ieee.Fits.{down_pos, and_l}
use Rattle.std.specs.Float.Ieee.Order.{round_mono}
use Rattle.std.specs.Float.Ieee.Back.{round_whole}
use Rattle.std.specs.Float.Ieee.Scale.{round_same}
use Rattle.noise.specs.declared.Noise.{Noise}
use Rattle.noise.specs.declared.Noise.TheVariants.{Measured, Iso}
use Rattle.noise.specs.Curve.{alpha, curve_of}
use Rattle.noise.specs.Level.{invalid}
use Rattle.noise.specs.Levels.{invalid_curve, invalid_iso, invalid_noise}

-- a number with the sign s, or an infinity
abbrev SignIs : Bool → Float → Type 0
SignIs s nan = ⊥
SignIs s (inf t) = t ≡ s
SignIs s (fin t m e) = t ≡ s

-- a number from +0 to k
abbrev UpTo : ℕ → Float → Type 0
UpTo k nan = ⊥
UpTo k (inf s) = ⊥
UpTo k (fin s m e) = (s ≡ false) × (m * up e ≤ k * down e)

-- zero, a positive number or the infinity above
abbrev pub NotNegative : Float → Type 0
NotNegative nan = ⊥
NotNegative (inf s) = s ≡ false
NotNegative (fin s m e) = T (not s || eqb m 0)

-- ---- rounding keeps the sign and whole bounds

value-sign : (x : Float) (s : Bool) (a c : ℕ) → HasValue x s a c → SignIs s x
value-sign nan s a c h = h
value-sign (inf t) s a c h = absurd h
value-sign (fin t m e) s a c h = h.0

units-sign : (s : Bool) (q k : ℕ) → SignIs s (units binary64 s q k)
unfolding units
units-sign s q k = go (ltb (q * 2 ^ k) (2 ^ 2098))
  where
    go : (b : Bool) → SignIs s (cond b (odd 54 s q k 1074) (inf s))
    go true = value-sign (odd 54 s q k 1074) s (q * 2 ^ k) (2 ^ 1074) (odd_sign 54 s q k 1074)
    go false = refl

round-sign : (s : Bool) (a c : ℕ) → SignIs s (round binary64 s a c)
unfolding round
round-sign s a c =
    let n = a * 2 ^ 1074 in
    let k = size (n / c) - 53 in
    let u = c * 2 ^ k in
    units-sign s (nearest (n / u) (compare (n % u * 2) u)) k

le-fins : (a b : ℕ) → T (ltb a b || (eqb a b && true)) → a ≤ b
le-fins a b h = go (ltb a b) refl h
  where
    go : (t : Bool) → ltb a b ≡ t → T (t || (eqb a b && true)) → a ≤ b
    go true e h = le_of_lt (ltb→lt a b (subst T (sym e) tt))
    go false e h = le_of_eq (eqb→eq a b (and_l (eqb a b) true h))

le-up-to : (k : ℕ) (x y : Float) → SignIs false x → HasValue y false k 1 → T (le x y) → UpTo k x
unfolding le lt eq
le-up-to k nan y s h l = s
le-up-to k (inf true) y s h l = absurd (subst T s tt)
le-up-to k (inf false) nan s h l = absurd h
le-up-to k (inf false) (inf t) s h l = absurd h
le-up-to k (inf false) (fin t n d) s h l = l
le-up-to k (fin true m e) y s h l = absurd (subst T s tt)
le-up-to k (fin false m e) nan s h l = absurd h
le-up-to k (fin false m e) (inf t) s h l = absurd h
le-up-to k (fin false m e) (fin true n d) s h l = absurd (subst T h.0 tt)
le-up-to k (fin false m e) (fin false n d) s h l =
    let cross : m * up e * down d ≤ n * up d * down e = le-fins _ _ l in
    let top : n * up d ≡ k * down d = sym (mul-one (n * up d)) ∙ h.1 in
    (refl, le_of_mul-le-mul_right {k = down d} (subst (λ (z : ℕ). m * up e * down d ≤ z) (ap (λ (z : ℕ). z * down e) top ∙ mul_right_comm k (down d) (down e)) cross) (down_pos d))

round-up-to : (k a c : ℕ) → 0 < c → k ≤ 2 ^ 53 → a ≤ k * c → UpTo k (round binary64 false a c)
round-up-to k a c hc hk h =
    le-up-to k _ (round binary64 false k 1) (round-sign false a c) (round_whole binary64 false k hk)
    (round_mono binary64 a c k 1 hc (omega arith) (subst (λ (z : ℕ). z ≤ k * c) (sym (mul-one a)) h))

-- ---- the factors of ISO scaling

div-hundred : (v : Float) (n : ℕ) → HasValue v false n 1 → n ≤ 409600 → UpTo 4096 (div binary64 v (of_int binary64 (pos 100)))
unfolding div of_int
div-hundred nan n h g = absurd h
div-hundred (inf s) n h g = absurd h
div-hundred (fin true m e) n h g = absurd (subst T h.0 tt)
div-hundred (fin false m e) n h g =
    round-up-to 4096 (m * up e * 1) (100 * down e) (omega (arith, down_pos e)) (lit≤ tt)
    (omega (arith, h.1, mul-le-mul_right (down e) g))

alpha-up-to : (iso : ℕ) → iso ≤ 409600 → UpTo 4096 (alpha iso)
unfolding of_int
alpha-up-to iso h = div-hundred _ iso (round_whole binary64 false iso (le_trans h (lit≤ tt))) h

square-up-to : (x : Float) → UpTo 4096 x → UpTo 16777216 (mul binary64 x x)
unfolding mul
square-up-to nan h = h
square-up-to (inf s) h = h
square-up-to (fin true m e) h = absurd (subst T h.0 tt)
square-up-to (fin false m e) h =
    round-up-to 16777216 (m * up e * (m * up e)) (down e * down e) (mul-pos (down_pos e) (down_pos e)) (lit≤ tt)
    (le_trans (mul-le-mul h.1 h.1) (le_of_eq (regroup (down e))))
  where
    regroup : (d : ℕ) → 4096 * d * (4096 * d) ≡ 16777216 * (d * d)
    regroup d = omega arith

-- ---- the scaled curve

sign-not-negative : (x : Float) → SignIs false x → NotNegative x
sign-not-negative nan s = s
sign-not-negative (inf t) s = s
sign-not-negative (fin false m e) s = tt
sign-not-negative (fin true m e) s = absurd (subst T s tt)

round-not-negative : (a c : ℕ) → NotNegative (round binary64 false a c)
round-not-negative a c = sign-not-negative (round binary64 false a c) (round-sign false a c)

-- minus zero
zero-not-negative : (c : ℕ) → 0 < c → NotNegative (round binary64 true 0 c)
unfolding round
zero-not-negative c h = subst NotNegative (sym (round_same binary64 true 0 c 0 1 h (omega arith) (sym (zero-mul c)))) tt

none-suc : (n : ℕ) → ltb 0 (suc n) ≡ false → ⊥
none-suc n h = omega (arith, ltb-false 0 (suc n) h)

times-not-negative : (k : ℕ) (a x : Float) → UpTo k a → invalid x ≡ false → NotNegative (mul binary64 a x)
unfolding mul
times-not-negative k nan x b u = absurd b
times-not-negative k (inf s) x b u = absurd b
times-not-negative k (fin true m e) x b u = absurd (subst T b.0 tt)
times-not-negative k (fin false m e) nan b u = absurd (subst T u tt)
times-not-negative k (fin false m e) (inf t) b u = absurd (subst T u tt)
times-not-negative k (fin false m e) (fin false n d) b u = round-not-negative (m * up e * (n * up d)) (down e * down d)
times-not-negative k (fin false m e) (fin true zero d) b u =
    subst (λ (z : ℕ). NotNegative (round binary64 true z (down e * down d))) (sym (ap (λ (z : ℕ). m * up e * z) (zero-mul (up d)) ∙ mul-zero (m * up e)))
    (zero-not-negative (down e * down d) (mul-pos (down_pos e) (down_pos d)))
times-not-negative k (fin false m e) (fin true (suc n) d) b u = absurd (none-suc n u)

valid-not-negative : (x : Float) → invalid x ≡ false → NotNegative x
valid-not-negative nan u = absurd (subst T u tt)
valid-not-negative (inf t) u = absurd (subst T u tt)
valid-not-negative (fin false n d) u = tt
valid-not-negative (fin true zero d) u = tt
valid-not-negative (fin true (suc n) d) u = absurd (none-suc n u)

pub neither : (a b : Bool) → (a || b) ≡ false → (a ≡ false) × (b ≡ false)
neither false b h = (refl, h)
neither true b h = absurd (subst T h tt)

pub curve-not-negative : (noise : Noise) → invalid_noise noise ≡ false → NotNegative (curve_of noise).shot × NotNegative (curve_of noise).read
unfolding invalid_noise invalid_curve invalid_iso
curve-not-negative (Measured curve) h =
    let p = neither (invalid curve.shot) _ h in
    (valid-not-negative curve.shot p.0, valid-not-negative curve.read p.1)
curve-not-negative (Iso iso base) h =
    let q = neither (ltb iso 25 || ltb 409600 iso) _ h in
    let p = neither (invalid base.shot) _ q.1 in
    let a = alpha-up-to iso (ltb-false 409600 iso (neither (ltb iso 25) (ltb 409600 iso) q.0).1) in
    (times-not-negative 4096 (alpha iso) base.shot a p.0, times-not-negative 16777216 (mul binary64 (alpha iso) (alpha iso)) base.read (square-up-to (alpha iso) a) p.1)
