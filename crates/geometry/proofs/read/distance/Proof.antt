-- −1−z is such a distance where z is negative.
use Rattle.std.specs.Prelude.{◌≡◌, ◌<◌, ◌-ℤ◌}
use Rattle.algebra.specs.Prelude.{refl, sym, subst, true, false, ℕ, arith, T, ℤ, pos, negsuc, nat_abs, w64, SFits}
use lib.Signed.{mag, lt_z, non_neg}
use mir.Facts.{to_z-of_z, Fits-nat_abs}
use borrow.Author.Tests.{ltb-true}
use Rattle.algebra.specs.Order.{zarith, sub-pn}
use Rattle.algebra.specs.Bound.{from_zero}
use Rattle.geometry.proofs.read.distance as of

-- what is answered for a negative z: it fits, it is not negative, and it is the distance
pub record Turned (z k : ℤ) : Type 0 where
  pub fits : SFits w64 k
  pub low : T (non_neg k)
  pub far : nat_abs k ≡ mag z

minus_one : (k : ℕ) → negsuc 0 -ℤ negsuc k ≡ pos k
minus_one k = omega (zarith, sub-pn (negsuc 0) (negsuc k))

turned : (z : ℤ) → SFits w64 z → lt_z z (pos 0) ≡ true → Turned z (negsuc 0 -ℤ z)
turned (pos k) f e = absurd (none (ltb-true k 0 e))
  where
    none : k < 0 → ⊥
    none h = omega arith
turned (negsuc k) f e = subst (Turned (negsuc k)) (sym (minus_one k)) (record { fits = record { sfits = f.sfits }; low = tt; far = refl })

straight : (z : ℤ) → lt_z z (pos 0) ≡ false → nat_abs z ≡ mag z
straight (pos k) e = refl
straight (negsuc k) e = absurd (subst T e tt)

-- that of the function's z
over : (c : of.Tie.Then-z-lt0) → Turned c.before.args.z (negsuc 0 -ℤ c.before.args.z)
over c = turned _ c.before.ranges.z (rw (to_z-of_z c.before.ranges.z) at c.if-z-lt0.true)

sub-result : of.Tie.Need-overflow_sub-result
sub-result c = rw (to_z-of_z c.before.ranges.z) (over c).fits

cast-result : of.Tie.Need-overflow_cast-result
cast-result c = rw (to_z-of_z c.before.ranges.z, to_z-of_z (over c).fits) ((over c).low, Fits-nat_abs tt (over c).fits)

returns : of.Tie.Need-returns-then-z-lt0
returns c = rw (to_z-of_z c.before.ranges.z, to_z-of_z (over c).fits) (over c).far

cast-result-2 : of.Tie.Need-overflow_cast-result-2
cast-result-2 c =
    let value = to_z-of_z c.before.ranges.z in
    rw value (from_zero c.before.args.z (rw value at c.if-z-lt0.false), Fits-nat_abs tt c.before.ranges.z)

returns-2 : of.Tie.Need-returns
returns-2 c = let value = to_z-of_z c.before.ranges.z in rw value (straight c.before.args.z (rw value at c.if-z-lt0.false))

pub distance_spec : {M : Type 1} → of.Statement.statement M
distance_spec = of.Tie.close (of.Tie.spec sub-result cast-result returns cast-result-2 returns-2)
