-- Levels of noises whose curves are in order, as refusal 26 compares them: after ISO, shot with shot and read with read.
use Rattle.range.specs.Prelude.{refl, Bool, true, false, not, ℕ, Float, nan, inf, fin, up, down, lt, first}
use Rattle.std.specs.Prelude.{T, ltb, eqb, ◌≡◌, ◌&&◌, ◌||◌, ◌*◌, ◌≤◌}
use Rattle.std.proofs.Common.{leb→le, eqb→eq, le-ltb}
use Rattle.std.specs.Float.Ieee.Fits.{and_l, and_r}
use Rattle.refusals.specs.Numbers as no
use Rattle.refusals.specs.TestLaws.{among, passed, refuse-not}
use Rattle.refusals.specs.After.{after}
use Rattle.noise.specs.declared.Curve.{Curve}
use Rattle.noise.specs.declared.Noise.{Noise}
use Rattle.noise.specs.declared.Noise.TheVariants.{Measured}
use Rattle.noise.specs.Curve.{curve_of}
use Rattle.noise.specs.Level.{invalid, exceeds, floor1024}
use Rattle.noise.specs.Within.{within}
use Rattle.noise.specs.Levels.{invalid_curve, invalid_noise, above_limits, noise_tests, levels_of, shot_level, read_level}
use Rattle.noise.specs.LevelLaws.{accepted-within}
use Rattle.noise.specs.ScalingLaws.{neither}
use Rattle.range.specs.Crossed.{NoneAbove, crossed, range_noise_tests}
use Rattle.range.specs.OrderLaws.{floor-mono, within-between, not-above}

-- an accepted noise has its curve's levels
levels-are : (noise : Noise) → first (noise_tests noise) ≡ 0 → (shot_level (levels_of noise) ≡ floor1024 (curve_of noise).shot) × (read_level (levels_of noise) ≡ floor1024 (curve_of noise).read)
unfolding levels_of after
levels-are noise e = rw e (refl, refl)

-- what passes 8 and 9, and is in order, has levels in order
pub levels-rise : (n n' : Noise) → first (noise_tests n) ≡ 0 → first (noise_tests n') ≡ 0 → NoneAbove (curve_of n) (curve_of n') →
    (shot_level (levels_of n) ≤ shot_level (levels_of n')) × (read_level (levels_of n) ≤ read_level (levels_of n'))
levels-rise n n' e e' h =
    let w = accepted-within n e in
    let w' = accepted-within n' e' in
    let l = levels-are n e in
    let l' = levels-are n' e' in
    (rw (l.0, l'.0) (floor-mono 64 64 _ _ w.0 w'.0 h.shot), rw (l.1, l'.1) (floor-mono 4096 4096 _ _ w.1 w'.1 h.read))

-- ---- what 8, 9 and 26 let through

noise-passes : (noise : Noise) → invalid_noise noise ≡ false → above_limits (curve_of noise) ≡ false → first (noise_tests noise) ≡ 0
unfolding first noise_tests
noise-passes noise h k = rw (h, k) refl

pub range-passed : (lower upper : Noise) → first (range_noise_tests lower upper) ≡ 0 →
    record { lower_accepted : first (noise_tests lower) ≡ 0; upper_accepted : first (noise_tests upper) ≡ 0; in_order : NoneAbove (curve_of lower) (curve_of upper) }
unfolding range_noise_tests
range-passed lower upper e =
    let valid = neither (invalid_noise lower) (invalid_noise upper) (refuse-not no.noise (invalid_noise lower || invalid_noise upper) tt (passed e (search among depth 20))) in
    let below = neither (above_limits (curve_of lower)) (above_limits (curve_of upper)) (refuse-not no.noise_limit (above_limits (curve_of lower) || above_limits (curve_of upper)) tt (passed e (search among depth 20))) in
    let order = neither (lt (curve_of upper).shot (curve_of lower).shot) (lt (curve_of upper).read (curve_of lower).read) (refuse-not no.noise_range (crossed (curve_of lower) (curve_of upper)) tt (passed e (search among depth 20))) in
    let l : first (noise_tests lower) ≡ 0 = noise-passes lower valid.0 below.0 in
    let u : first (noise_tests upper) ≡ 0 = noise-passes upper valid.1 below.1 in
    let w = accepted-within lower l in
    let w' = accepted-within upper u in
    record {
      lower_accepted = l;
      upper_accepted = u;
      in_order = record { shot = not-above 64 64 (curve_of lower).shot (curve_of upper).shot w.0 w'.0 order.0; read = not-above 4096 4096 (curve_of lower).read (curve_of upper).read w.1 w'.1 order.1 };
    }

-- ---- a curve between two that are accepted is accepted

sign-valid : (s : Bool) (m : ℕ) → T (not s || eqb m 0) → (s && ltb 0 m) ≡ false
sign-valid false m h = refl
sign-valid true m h = rw (eqb→eq m 0 h) refl

not-over : (s : Bool) (a b : ℕ) → a ≤ b → (not s && ltb b a) ≡ false
not-over true a b h = refl
not-over false a b h = le-ltb b a h

within-passes : (k : ℕ) (x : Float) → T (within k x) → (invalid x ≡ false) × (exceeds k x ≡ false)
within-passes k nan h = absurd h
within-passes k (inf s) h = absurd h
within-passes k (fin s m e) h =
    (sign-valid s m (and_l (not s || eqb m 0) _ h), not-over s (m * up e) (k * down e) (leb→le (m * up e) (k * down e) (and_r (not s || eqb m 0) _ h)))

within-accepted : (c : Curve) → T (within 64 c.shot) → T (within 4096 c.read) → first (noise_tests (Measured c)) ≡ 0
unfolding first noise_tests invalid_noise invalid_curve above_limits
within-accepted c h k =
    let p = within-passes 64 c.shot h in
    let q = within-passes 4096 c.read k in
    rw (p.0, q.0, p.1, q.1) refl

module _ (lower upper : Noise) (c : Curve) (e : first (noise_tests lower) ≡ 0) (e' : first (noise_tests upper) ≡ 0) (h : NoneAbove (curve_of lower) c) (k : NoneAbove c (curve_of upper)) where
  pub curve-accepted : first (noise_tests (Measured c)) ≡ 0
  curve-accepted =
      let w = accepted-within lower e in
      let w' = accepted-within upper e' in
      within-accepted c (within-between 64 _ c.shot _ w.0 w'.0 h.shot k.shot) (within-between 4096 _ c.read _ w.1 w'.1 h.read k.read)
