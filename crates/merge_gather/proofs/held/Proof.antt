-- Below, between and above; between, the quotient by the reciprocal is exact.
use Rattle.std.specs.Prelude.{◌≡◌, ◌+◌, ◌*◌, ◌/◌, ◌≤◌, ◌<◌, ◌*ℤ◌, ◌≤ℤ◌, ◌<ℤ◌}
use Rattle.merge_gather.specs.Prelude.{sym, ap, ◌∙◌, arith, rules, pos, nat_abs, w64, SFits, to_z}
use native.Mathlib.Nat.{mul-le-mul, div-le_self, div-lt_iff_lt-mul}
use mir.Facts.{to_z_pos, to_z-of_z}
use Rattle.algebra.specs.Bound.{from_zero}
use Rattle.algebra.specs.Fit.{test-lt, test-ge}
use Rattle.algebra.specs.Order.{zarith, abs-pn, min-pn}
use Rattle.merge_gather.proofs.Quotients.{reciprocal-19, held_below, held-between, held-above}
use Rattle.merge_gather.proofs.held as of

zero-fits : SFits w64 (pos 0)
zero-fits = record { sfits = omega arith }

module _ (s : of.Tie.Start) where
  count-is : to_z w64 s.args.count ≡ pos s.args.count
  count-is = to_z_pos w64 (omega (arith, s.requires.few))

  limit-fits : SFits w64 (pos 4096 *ℤ to_z w64 s.args.count)
  limit-fits = rw count-is (record { sfits = omega (arith, s.requires.few) })

returns : of.Tie.Need-returns-then-z-lt0
returns c =
    let s = c in
    sym (held_below s.args.count s.args.z (test-lt s.args.z (pos 0) s.ranges.z zero-fits c.if-z-lt0.true))

module _ (c : of.Tie.Then-z-count) where
  abbrev s : of.Tie.Start
  s = c.before.before

  low : pos 0 ≤ℤ s.args.z
  low = test-ge s.args.z (pos 0) s.ranges.z zero-fits c.if-z-lt0.false

  high : s.args.z <ℤ pos (4096 * s.args.count)
  high = rw (count-is s) at (test-lt s.args.z (pos 4096 *ℤ to_z w64 s.args.count) s.ranges.z (limit-fits s) c.if-z-count.true)

  size : nat_abs s.args.z < 4096 * s.args.count
  size = omega (zarith, abs-pn s.args.z, min-pn s.args.z, low, high)

  product : nat_abs s.args.z * s.args.inverse ≤ 32768 * 524295
  product = mul-le-mul {n₁ = nat_abs s.args.z} {m₁ = s.args.inverse} {n₂ = 32768} {m₂ = 524295} (omega (arith, size, s.requires.few)) (omega (arith, div-le_self (524287 + s.args.count) s.args.count, s.requires.few, s.requires.inverse_is))

  quotient : nat_abs s.args.z * s.args.inverse / 524288 ≡ nat_abs s.args.z / s.args.count
  quotient = ap (λ r. nat_abs s.args.z * r / 524288) s.requires.inverse_is ∙ reciprocal-19 (nat_abs s.args.z) s.args.count s.requires.some s.requires.few size

  quotient-below : nat_abs s.args.z / s.args.count < 4096
  quotient-below = (div-lt_iff_lt-mul {k = s.args.count} {x = nat_abs s.args.z} {y = 4096} (omega (arith, s.requires.some))).1 size

cast-result : of.Tie.Need-overflow_cast-result
cast-result c =
    let a = s c in
    rw (to_z-of_z a.ranges.z) (from_zero a.args.z (rw (to_z-of_z a.ranges.z) at c.if-z-lt0.false), record { fits = omega (arith, size c, a.requires.few) })

mul-result : of.Tie.Need-overflow_mul-result
mul-result c = rw (to_z-of_z (s c).ranges.z) (record { fits = omega (arith, product c) })

cast-result-2 : of.Tie.Need-overflow_cast-result-then-z-count
cast-result-2 c = rw (to_z-of_z (s c).ranges.z) (record { fits = omega (arith, quotient c, quotient-below c) })

returns-2 : of.Tie.Need-returns-then-z-count
returns-2 c =
    let a = s c in
    rw (to_z-of_z a.ranges.z) (quotient c ∙ sym (held-between a.args.count a.args.z (omega (arith, a.requires.some)) (low c) (high c)))

returns-3 : of.Tie.Need-returns
returns-3 c =
    let a = c.before.before in
    sym (held-above a.args.count a.args.z (omega (arith, a.requires.some)) (rw (count-is a) at (test-ge a.args.z (pos 4096 *ℤ to_z w64 a.args.count) a.ranges.z (limit-fits a) c.if-z-count.false)))

pub held_spec : {M : Type 1} → of.Statement.statement M
held_spec = of.Tie.close (of.Tie.spec
    returns (λ c. search rules) (λ c. limit-fits c.before) cast-result mul-result cast-result-2
    returns-2 returns-3)
