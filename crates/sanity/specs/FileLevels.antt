-- A file's levels as a curve, in quotients by 1024, as `stacker_file_noise` of stacker.h has them: the quotients are exact, and merge and run find the file's own levels in them.
use Rattle.sanity.specs.Prelude.{refl, sym, ap, ap₂, subst, ◌∙◌, true, false, not, ℕ, arith, T, ltb, lit<, lit≤, pos, first}
use Rattle.std.proofs.Common.{mul-div_cancel, lt_of_lt_of_le, lt_of_le_of_lt, le_trans, mul-pos, mul-le-mul_right, shl_lt, le-ltb}
use Rattle.std.proofs.Math.Nat.{eq_of_mul-eq-mul_right}
use Rattle.std.specs.Prelude.{Float, ◌≡◌, ◌&&◌, ◌*◌, ◌/◌, ◌^◌, ◌≤◌, ◌<◌}
use Rattle.std.specs.Float.{nan, inf, fin, binary64}
use Rattle.std.specs.Float.Ieee.{up, down, round, div, of_int}
use Rattle.std.specs.Float.Ieee.Exact.{HasValue, round_exact}
use Rattle.std.specs.Float.Ieee.Back.{round_whole}
use Rattle.std.specs.Float.Ieee.Fits.{down_pos}
use Rattle.refusals.specs.After.{after}
use Rattle.noise.specs.declared.Noise.TheVariants.{Measured}
use Rattle.noise.specs.Levels.{Found}
use Rattle.noise.specs.Level.{invalid, exceeds, floor1024}
use Rattle.noise.specs.Levels.{invalid_curve, invalid_noise, above_limits, noise_tests, levels_of}

-- level / 1024.0, in doubles
abbrev pub of_level : ℕ → Float
of_level level = div binary64 (of_int binary64 (pos level)) (of_int binary64 (pos 1024))

-- from a / c to level / 1024
rescaled : (x : Float) (a c level d : ℕ) → 0 < d → a ≡ level * d → c ≡ 1024 * d → HasValue x false a c → HasValue x false level 1024
rescaled nan a c level d p ea ec v = v
rescaled (inf s) a c level d p ea ec v = v
rescaled (fin s m e) a c level d p ea ec v =
    (v.0, eq_of_mul-eq-mul_right d p (m * up e * 1024) (level * down e) (same (m * up e) (down e) (subst (λ z. m * up e * z ≡ a * down e) ec v.1) ea))
  where
    same : (n w : ℕ) → n * (1024 * d) ≡ a * w → a ≡ level * d → n * 1024 * d ≡ level * w * d
    same n w h e = omega (arith, ap (λ z. z * w) e)

-- level / 1024, handed to the rounding as the quotient of level * d by 1024 * d, is a double
exact : (level d : ℕ) → level ≤ 4194304 → 0 < d → HasValue (round binary64 false (level * d) (1024 * d)) false (level * d) (1024 * d)
exact level d h p =
    round_exact binary64 false (level * d) (1024 * d) level 1064 (mul-pos (lit< tt) p) small (lt_of_lt_of_le (shl_lt 53 1064 small) (lit≤ tt)) (same (2 ^ 1064))
  where
    small : level < 2 ^ 53
    small = lt_of_le_of_lt h (lit< tt)

    same : (q : ℕ) → level * d * (q * 1024) ≡ level * q * (1024 * d)
    same q = omega arith

quotient : (x : Float) (level : ℕ) → level ≤ 4194304 → HasValue x false level 1 → HasValue (div binary64 x (fin false 1 (pos 10))) false level 1024
unfolding div
quotient nan level h v = absurd v
quotient (inf s) level h v = absurd v
quotient (fin true m e) level h v = absurd (subst T v.0 tt)
quotient (fin false m e) level h v =
    let d = down e in
    let rounded = exact level d h (down_pos e) in
    rescaled (round binary64 false (m * up e * 1) (1024 * d)) (level * d) (1024 * d) level d (down_pos e) refl refl
    (subst (λ z. HasValue (round binary64 false z (1024 * d)) false (level * d) (1024 * d)) (sym v.1) rounded)

level-value : (level : ℕ) → level ≤ 4194304 → HasValue (of_level level) false level 1024
unfolding of_int round
level-value level h = quotient (of_int binary64 (pos level)) level h (round_whole binary64 false level (le_trans h (lit≤ tt)))

-- what the value is to the tests and to the floor
floor-is : (x : Float) (level : ℕ) → HasValue x false level 1024 → floor1024 x ≡ level
floor-is nan level v = absurd v
floor-is (inf s) level v = absurd v
floor-is (fin s m e) level v = ap (λ z. z / down e) (omega (arith, v.1)) ∙ mul-div_cancel level (down_pos e)

valid : (x : Float) (level : ℕ) → HasValue x false level 1024 → invalid x ≡ false
valid nan level v = absurd v
valid (inf s) level v = absurd v
valid (fin s m e) level v = ap (λ z. z && ltb 0 m) v.0

not-above : (k : ℕ) (x : Float) (level : ℕ) → level ≤ 1024 * k → HasValue x false level 1024 → exceeds k x ≡ false
not-above k nan level h v = absurd v
not-above k (inf s) level h v = absurd v
not-above k (fin s m e) level h v =
    ap (λ z. not z && ltb (k * down e) (m * up e)) v.0 ∙ le-ltb (k * down e) (m * up e) (omega (arith, v.1, mul-le-mul_right (down e) h))

-- the floor of 1024 times the quotient is the level
pub level-back : (level : ℕ) → level ≤ 4194304 → floor1024 (of_level level) ≡ level
level-back level h = floor-is (of_level level) level (level-value level h)

-- as far as refusal 9 lets a file's levels go, their curve passes refusals 8 and 9, and its levels are the file's
pub file-levels : (ls lr : ℕ) → ls ≤ 65536 → lr ≤ 4194304 → levels_of (Measured (record { shot = of_level ls; read = of_level lr })) ≡ Found ls lr
unfolding levels_of noise_tests first after invalid_noise invalid_curve above_limits
file-levels ls lr a b = decided (of_level ls) (of_level lr) (level-value ls (le_trans a (lit≤ tt))) (level-value lr b)
  where
    decided : (x y : Float) → HasValue x false ls 1024 → HasValue y false lr 1024 → levels_of (Measured (record { shot = x; read = y })) ≡ Found ls lr
    decided x y p q =
        rw (valid x ls p) (rw (valid y lr q) (rw (not-above 64 x ls a p) (rw (not-above 4096 y lr b q) (ap₂ Found (floor-is x ls p) (floor-is y lr q)))))
