-- Forward the remainder itself, backward what it leaves of the period.
use Rattle.std.specs.Prelude.{◌≡◌, ◌-◌, ◌*◌, ◌%◌, ◌<◌}
use Rattle.algebra.specs.Prelude.{refl, ap, subst, ◌∙◌, true, false, ℕ, arith, rules, T, ℤ, pos, negsuc, to_z-of_z}
use native.Mathlib.Nat.{mod-lt}
use lib.Signed.{mag, lt_z}
use borrow.Author.Tests.{ltb-true}
use Rattle.align_patch.specs.Period.{place_in}
use Rattle.align_patch.proofs.first_place as of

backward : (size : ℕ) (z : ℤ) → lt_z z (pos 0) ≡ true → 2 * size - 1 - mag z % (2 * size) ≡ place_in size z
unfolding place_in
backward size (pos k) e = absurd (none (ltb-true k 0 e))
  where
    none : k < 0 → ⊥
    none h = omega arith
backward size (negsuc k) e = refl

forward : (size : ℕ) (z : ℤ) → lt_z z (pos 0) ≡ false → mag z % (2 * size) ≡ place_in size z
unfolding place_in
forward size (pos k) e = refl
forward size (negsuc k) e = absurd (subst T e tt)

returns : of.Tie.Need-returns-then-column-lt0
returns c =
    let value = to_z-of_z c.before.before.ranges.column in
    let a = c.before.before.args in
    ap (λ k. 2 * a.width - 1 - k % (2 * a.width)) (rw value at c.before.distance.ensures) ∙ backward a.width a.column (rw value at c.if-column-lt0.true)

returns-2 : of.Tie.Need-returns
returns-2 c =
    let value = to_z-of_z c.before.before.ranges.column in
    let a = c.before.before.args in
    ap (λ k. k % (2 * a.width)) (rw value at c.before.distance.ensures) ∙ forward a.width a.column (rw value at c.if-column-lt0.false)

-- a remainder lies in the period
rest : (k width : ℕ) → 0 < width → k % (2 * width) < 2 * width
rest k width h = mod-lt k (omega arith)

pub first_place_spec : {M : Type 1} → of.Statement.statement M
first_place_spec = of.Tie.close (of.Tie.spec (λ c. search rules) (λ c. search rules) (λ c. search rules) (λ c. search rules) (λ c. search rules) (λ c. omega (arith, rest c.before.distance.result c.before.before.args.width (omega arith))) returns returns-2)
