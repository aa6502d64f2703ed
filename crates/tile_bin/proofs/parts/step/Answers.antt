use Rattle.std.specs.Prelude.{◌≡◌, ◌∷◌, ◌+ℤ◌, ◌*ℤ◌}
use Rattle.tile_bin.specs.Prelude.{sym, ap, ap₂, subst, ◌∙◌, List, [], arith, rules, lit<, ℤ, pos, nat_abs, w64, away, power, wiener, copy_part_most, noise_most, AtMost}
use Prim.Native.Nat.{ℕ, ◌-◌, ◌<◌, ◌≤◌, ◌^◌}
use native.Mathlib.Nat.{lt_of_le_of_lt, add-le-add, mul-le-mul}
use mir.Val.{Fits, SFits, to_z, of_z}
use mir.Facts.{to_z-of_z}
use mir.ValLaws.{to_z_pos}
use Rattle.algebra.specs.Ring.{nth}
use Rattle.algebra.specs.Code.{Code, par, loc, add, mul, to, Bounded, fits, val, val-den}
use Rattle.algebra.specs.Fit.{sfits-abs}
use Rattle.algebra.specs.Bound.{abs-fits}
use Rattle.recipe.specs.CorrectionLaws.{power-is}
use Rattle.tile_spectrum.specs.WienerLaws.{wiener-is}
use Rattle.tile_bin.proofs.parts.step.Goals as goal

-- |Q|² + V fits by the computed test of `Code`
module _ (noise : ℕ) (q r : ℤ) (in_q : SFits w64 q) (in_r : SFits w64 r) (noise_below : noise ≤ noise_most) (part : AtMost copy_part_most q) (other : AtMost copy_part_most r) where
  abbrev xs : List ℤ
  xs = q ∷ r ∷ to_z w64 noise ∷ []

  abbrev bs : List ℕ
  bs = copy_part_most ∷ copy_part_most ∷ noise_most ∷ []

  noise-is : to_z w64 noise ≡ pos noise
  noise-is = to_z_pos w64 noise (omega arith)

  small : Bounded xs bs
  small = (part.most, (other.most, (rw noise-is noise_below, tt)))

  abbrev Squares : Code (nth xs)
  Squares = add w64 (mul w64 (par w64 0 in_q) (par w64 0 in_q)) (mul w64 (par w64 1 in_r) (par w64 1 in_r))

  abbrev Power : Code (nth xs)
  Power = add w64 Squares (loc 2)

  squares-fit : SFits w64 (val {ρ = nth xs} (mul w64 (par w64 0 in_q) (par w64 0 in_q)) +ℤ val {ρ = nth xs} (mul w64 (par w64 1 in_r) (par w64 1 in_r)))
  squares-fit = fits xs bs small w64 Squares tt

  sum-fits : SFits w64 (val Squares +ℤ to_z w64 noise)
  sum-fits = fits xs bs small w64 Power tt

  power_at : val Power ≡ pos (power noise q r)
  power_at = val-den xs bs small Power tt ∙ ap (λ v. q *ℤ q +ℤ r *ℤ r +ℤ v) noise-is ∙ power-is noise q r

  power-fits : Fits w64 (power noise q r)
  power-fits = subst (λ z. Fits w64 (nat_abs z)) power_at (abs-fits w64 w64 (val Power) tt (fits xs bs small w64 (to w64 Power) tt))

  power_small : power noise q r < 2 ^ 60
  power_small = lt_of_le_of_lt (add-le-add (add-le-add (mul-le-mul part.most part.most) (mul-le-mul other.most other.most)) noise_below) (lit< tt)

-- and V·Q, of which the double need not fit, as asked
module _ (noise : ℕ) (q : ℤ) (in_q : SFits w64 q) (noise_below : noise ≤ noise_most) (below : nat_abs (pos noise *ℤ q) < 2 ^ 63) where
  raw-product : to_z w64 noise *ℤ to_z w64 (of_z w64 q) ≡ pos noise *ℤ q
  raw-product = ap₂ ◌*ℤ◌ (to_z_pos w64 noise (omega arith)) (to_z-of_z in_q)

  product_at : to_z w64 (of_z w64 (to_z w64 noise *ℤ to_z w64 (of_z w64 q))) ≡ pos noise *ℤ q
  product_at = to_z-of_z (subst (SFits w64) (sym raw-product) (sfits-abs _ (2 ^ 63 - 1) (omega arith) tt)) ∙ raw-product

pub returns-then-noise-eq0 : goal.returns-then-noise-eq0
unfolding wiener
returns-then-noise-eq0 c = rw c.if-noise-eq0.true

pub overflow_add-signal : goal.overflow_add-signal
overflow_add-signal c = squares-fit c.args.noise c.args.q c.args.r c.ranges.q c.ranges.r c.requires.noise-most c.requires.part c.requires.other

pub overflow_add-power : goal.overflow_add-power
overflow_add-power c = sum-fits c.args.noise c.args.q c.args.r c.ranges.q c.ranges.r c.requires.noise-most c.requires.part c.requires.other

pub overflow_cast-power : goal.overflow_cast-power
overflow_cast-power c =
    let r = c.requires in
    rw (power_at c.args.noise c.args.q c.args.r c.ranges.q c.ranges.r r.noise-most r.part r.other) (tt, power-fits c.args.noise c.args.q c.args.r c.ranges.q c.ranges.r r.noise-most r.part r.other)

pub round_away-requires : goal.round_away-requires
round_away-requires c =
    let r = c.requires in
    rw (power_at c.args.noise c.args.q c.args.r c.ranges.q c.ranges.r r.noise-most r.part r.other, product_at c.args.noise c.args.q c.ranges.q r.noise-most r.product_below)
    (record { divisor_some = omega arith; divisor_below = power_small c.args.noise c.args.q c.args.r c.ranges.q c.ranges.r r.noise-most r.part r.other; dividend_below = r.product_below })

pub returns : goal.returns
returns c =
    let r = c.requires in
    let n : 0 < c.args.noise = omega arith in
    let e : to_z w64 (of_z w64 c.round_away.result) ≡ c.round_away.result = search rules in
    e
    ∙ c.round_away.ensures ∙ ap₂ (λ z p. away z (nat_abs p)) (product_at c.args.noise c.args.q c.ranges.q r.noise-most r.product_below) (power_at c.args.noise c.args.q c.args.r c.ranges.q c.ranges.r r.noise-most r.part r.other)
    ∙ sym (wiener-is c.args.noise c.args.q c.args.r n)
