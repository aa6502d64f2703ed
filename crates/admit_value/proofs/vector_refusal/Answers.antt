-- A hit refuses, the end accepts.
use Rattle.std.proofs.Common.{sym, arith, true, false, pos, ℤ, lt-ltb, le-ltb, to_z, of_z, ◌≡◌, ◌<◌, ◌≤◌, ◌^◌}
use Rattle.algebra.specs.Prelude.{negsuc, nat_abs, w32, SFits, get_or}
use lib.Signed.{mag, lt_z}
use mir.Facts.{sfits_lit}
use Rattle.algebra.specs.Order.{zarith, abs-pn, min-pn}
use Rattle.algebra.specs.Fit.{test-lt, test-ge}
use Rattle.refusals.specs.SomeLaws.{pass-start, pass-turn}
use Rattle.admit_value.specs.BoundLaws.{beyond, vectors-refused, vectors-accepted}
use Rattle.admit_value.proofs.vector_refusal.Goals as goal
use Rattle.admit_value.proofs.vector_refusal.Goals.{then-part-lt-PART_LEAST-via-then-part-lt-PART_LEAST, then-part-lt-PART_LEAST-via-else-part-lt-PART_LEAST+then-part-gt-PART_MOST}

-- the tests of one part, as the machine has it
module _ (z : ℤ) (fits : SFits w32 z) where
  far-below : lt_z (to_z w32 (of_z w32 z)) (negsuc 171) ≡ true → 172 < nat_abs z
  far-below e = omega (zarith, test-lt {w = w32} z (negsuc 171) fits (sfits_lit tt) e, abs-pn z, min-pn z)

  far-above : lt_z (pos 172) (to_z w32 (of_z w32 z)) ≡ true → 172 < nat_abs z
  far-above e = omega (zarith, test-lt {w = w32} (pos 172) z (sfits_lit tt) fits e, abs-pn z, min-pn z)

  near : lt_z (to_z w32 (of_z w32 z)) (negsuc 171) ≡ false → lt_z (pos 172) (to_z w32 (of_z w32 z)) ≡ false → nat_abs z ≤ 172
  near e k = omega (zarith, test-ge {w = w32} z (negsuc 171) fits (sfits_lit tt) e, test-ge {w = w32} (pos 172) z (sfits_lit tt) fits k, abs-pn z, min-pn z)

pub loop-part-init : goal.loop-part-init
loop-part-init c = pass-start

pub returns-then-part-lt-PART_LEAST : goal.returns-then-part-lt-PART_LEAST
unfolding beyond
returns-then-part-lt-PART_LEAST c =
    let part = get_or c.args.vectors.now c.loop-part.part-index (pos 0) in
    let fits : SFits w32 part = record { sfits = c.part-1.given } in
    elim c.then-part-lt-PART_LEAST.branch [
      | then-part-lt-PART_LEAST-via-then-part-lt-PART_LEAST w ↦ vectors-refused _ _ c.loop-part-test.true (lt-ltb _ _ (far-below part fits w.if-part-lt-PART_LEAST.true))
      | then-part-lt-PART_LEAST-via-else-part-lt-PART_LEAST+then-part-gt-PART_MOST w ↦ vectors-refused _ _ c.loop-part-test.true (lt-ltb _ _ (far-above part fits w.if-part-gt-PART_MOST.true))
    ]

pub loop-part-preserved : goal.loop-part-preserved
unfolding beyond
loop-part-preserved c =
    let part = get_or c.args.vectors.now c.loop-part.part-index (pos 0) in
    let fits : SFits w32 part = record { sfits = c.part-1.given } in
    pass-turn c.loop-part.invariant c.loop-part-test.true (le-ltb _ _ (near part fits c.if-part-lt-PART_LEAST.false c.if-part-gt-PART_MOST.false))

pub returns : goal.returns
returns c = vectors-accepted _ c.loop-part.invariant c.loop-part-test.false
