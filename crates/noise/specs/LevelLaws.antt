-- The levels of any noise are at most 65536 and 4194304, since its curve's numbers lie between 0 and the limits of refusal 9; and what refusals 9 and 10 let through.
use Rattle.noise.specs.Prelude.{refl, sym, ap, subst, true, false, not, ℕ, zero, suc, arith, Float, nan, inf, fin, up, down, first}
use Rattle.std.proofs.Math.Nat.{div-le_of_le-mul}
use Rattle.std.proofs.Common.{le_trans, mul-le-mul_right, zero-mul, leb→le, le→leb, eqb→eq, ltb-false}
use Rattle.std.specs.Prelude.{T, ltb, eqb, ◌≡◌, ◌||◌, ◌*◌, ◌≤◌}
use Rattle.std.specs.Float.Ieee.Fits.{and_l, and_r, and_i}
use Rattle.refusals.specs.Numbers as no
use Rattle.refusals.specs.TestLaws.{among, passed, refuse-not}
use Rattle.refusals.specs.After.{after}
use Rattle.noise.specs.declared.Noise.{Noise}
use Rattle.noise.specs.Curve.{curve_of}
use Rattle.noise.specs.Level.{exceeds, floor1024}
use Rattle.noise.specs.Within.{within}
use Rattle.noise.specs.Levels.{Refused, invalid_noise, above_limits, curve_levels, noise_tests, levels_of, refusal_of, shot_level, read_level, level_refusal, strength_refusal, spatial_refusal}
use Rattle.noise.specs.ScalingLaws.{NotNegative, neither, curve-not-negative}

not-over-within : (k : ℕ) (x : Float) → NotNegative x → exceeds k x ≡ false → T (within k x)
not-over-within k nan h o = h
not-over-within k (inf false) h o = absurd (subst T o tt)
not-over-within k (inf true) h o = absurd (subst T h tt)
not-over-within k (fin false m e) h o = le→leb (m * up e) (k * down e) (ltb-false (k * down e) (m * up e) o)
not-over-within k (fin true m e) h o = and_i (eqb m 0) _ h (le→leb _ _ (subst (λ (z : ℕ). z * up e ≤ k * down e) (sym (eqb→eq m 0 h)) (omega (arith, zero-mul (up e)))))

pub within_more : (k l : ℕ) (x : Float) → k ≤ l → T (within k x) → T (within l x)
within_more k l nan g h = h
within_more k l (inf s) g h = h
within_more k l (fin s m e) g h = and_i (not s || eqb m 0) _ (and_l (not s || eqb m 0) _ h) (le→leb _ _ (le_trans (leb→le _ _ (and_r (not s || eqb m 0) _ h)) (mul-le-mul_right (down e) g)))

-- what refusals 8 and 9 leave
pub accepted-within : (noise : Noise) → first (noise_tests noise) ≡ 0 → T (within 64 (curve_of noise).shot) × T (within 4096 (curve_of noise).read)
unfolding noise_tests above_limits
accepted-within noise e =
    let valid = refuse-not no.noise (invalid_noise noise) tt (passed e (search among)) in
    let within = refuse-not no.noise_limit (above_limits (curve_of noise)) tt (passed e (search among)) in
    let p = neither (exceeds 64 (curve_of noise).shot) _ within in
    let n = curve-not-negative noise valid in
    (not-over-within 64 (curve_of noise).shot n.0 p.0, not-over-within 4096 (curve_of noise).read n.1 p.1)

floor-most : (k : ℕ) (x : Float) → T (within k x) → floor1024 x ≤ 1024 * k
floor-most k nan w = absurd w
floor-most k (inf s) w = absurd w
floor-most k (fin s m e) w = div-le_of_le-mul (down e) (many (leb→le _ _ (and_r (not s || eqb m 0) _ w)))
  where
    many : m * up e ≤ k * down e → 1024 * (m * up e) ≤ down e * (1024 * k)
    many h = omega arith

levels-bound : (noise : Noise) → (shot_level (levels_of noise) ≤ 65536) × (read_level (levels_of noise) ≤ 4194304)
unfolding levels_of after
levels-bound noise = go (first (noise_tests noise)) refl
  where
    go : (n : ℕ) → first (noise_tests noise) ≡ n →
        let levels = after n (Refused n) (curve_levels (curve_of noise)) in
        (shot_level levels ≤ 65536) × (read_level levels ≤ 4194304)
    go zero e = let w = accepted-within noise e in (floor-most 64 (curve_of noise).shot w.0, floor-most 4096 (curve_of noise).read w.1)
    go (suc n) e = (omega arith, omega arith)

pub shot-level-bound : (noise : Noise) → shot_level (levels_of noise) ≤ 65536
shot-level-bound noise = (levels-bound noise).0

pub read-level-bound : (noise : Noise) → read_level (levels_of noise) ≤ 4194304
read-level-bound noise = (levels-bound noise).1

-- ---- what the tests of a file's levels and of the strength let through

pub levels-most : (ls lr : ℕ) → level_refusal ls lr ≡ 0 → (ls ≤ 65536) × (lr ≤ 4194304)
unfolding level_refusal
levels-most ls lr e =
    let p = neither (ltb 65536 ls) (ltb 4194304 lr) (refuse-not no.noise_limit (ltb 65536 ls || ltb 4194304 lr) tt e) in
    (ltb-false 65536 ls p.0, ltb-false 4194304 lr p.1)

pub strength_most : (t : ℕ) → strength_refusal t ≡ 0 → t ≤ 1024
unfolding strength_refusal
strength_most t e = ltb-false 1024 t (refuse-not no.strength (ltb 1024 t) tt e)

pub spatial-most : (s : ℕ) → spatial_refusal s ≡ 0 → s ≤ 256
unfolding spatial_refusal
spatial-most s e = ltb-false 256 s (refuse-not no.spatial_strength (ltb 256 s) tt e)

-- ---- the answer's number is that of the tests

pub levels-number : (noise : Noise) → refusal_of (levels_of noise) ≡ first (noise_tests noise)
unfolding levels_of after
levels-number noise = go (first (noise_tests noise))
  where
    go : (n : ℕ) → refusal_of (after n (Refused n) (curve_levels (curve_of noise))) ≡ n
    go zero = refl
    go (suc n) = refl

-- a refusal's number is not 0
pub refused-above : (noise : Noise) (n : ℕ) → levels_of noise ≡ Refused n → n ≡ 0 → ⊥
unfolding levels_of after
refused-above noise n e z = go (first (noise_tests noise)) e
  where
    go : (m : ℕ) → after m (Refused m) (curve_levels (curve_of noise)) ≡ Refused n → ⊥
    go zero e = let h : ◌≡◌ {A = ℕ} 0 1 = cc in omega arith
    go (suc m) e = let same : suc m ≡ n = ap refusal_of e in omega arith
