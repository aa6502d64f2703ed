-- The tests of a band, one after the other; the last is of a difference, which cannot wrap.
use Rattle.std.specs.Prelude.{◌≡◌, ◌+◌, ◌-◌, ◌≤◌}
use Rattle.algebra.specs.Prelude.{refl, Bool, true, false, ℕ, arith, leb}
use borrow.Author.Tests.{eq-eqb, ne_eqb, le-leb, lt-leb, leb-true, leb-false}
use Rattle.admit_length.specs.Bands.{band_allowed}
use Rattle.admit_length.specs.BandLaws.{side-least}
use Rattle.admit_length.proofs.bands.band_allowed as of

last : (top rows height : ℕ) → rows ≤ height → leb top (height - rows) ≡ leb (top + rows) height
last top rows height h = by (leb (top + rows) height) refl
  where
    by : (b : Bool) → leb (top + rows) height ≡ b → leb top (height - rows) ≡ b
    by true e = le-leb top (height - rows) (omega (arith, leb-true (top + rows) height e))
    by false e = lt-leb top (height - rows) (omega (arith, leb-false (top + rows) height e))

rem-if1 : of.Tie.Need-nonzero_rem-top
rem-if1 c = side-least c.before.requires

returns : of.Tie.Need-returns-then-top-shape-ne0
unfolding band_allowed
returns c = rw (ne_eqb _ 0 c.if-top-shape-ne0.true)

rem-if2 : of.Tie.Need-nonzero_rem-rows
rem-if2 c = side-least c.before.before.before.requires

returns-2 : of.Tie.Need-returns-then-rows-shape-ne0
unfolding band_allowed
returns-2 c = rw (eq-eqb _ 0 c.before.before.if-top-shape-ne0.false, ne_eqb _ 0 c.if-rows-shape-ne0.true)

returns-3 : of.Tie.Need-returns-then-rows-lt1
unfolding band_allowed
returns-3 c = rw (eq-eqb _ 0 c.before.before.before.if-top-shape-ne0.false, eq-eqb _ 0 c.before.if-rows-shape-ne0.false, lt-leb 1 _ c.if-rows-lt1.true)

returns-4 : of.Tie.Need-returns-then-shape-rows
unfolding band_allowed
returns-4 c =
    let third = c.before.before in
    let second = third.before in
    let first = second.before.before in
    let a = first.before.before.args in
    rw (eq-eqb _ 0 first.if-top-shape-ne0.false, eq-eqb _ 0 second.if-rows-shape-ne0.false, le-leb 1 _ third.if-rows-lt1.false, lt-leb (a.top + a.rows) a.shape.height (omega (arith, c.if-shape-rows.true)))

returns-5 : of.Tie.Need-returns
unfolding band_allowed
returns-5 c =
    let fourth = c.before in
    let third = fourth.before.before in
    let second = third.before in
    let first = second.before.before in
    let a = first.before.before.args in
    rw (eq-eqb _ 0 first.if-top-shape-ne0.false, eq-eqb _ 0 second.if-rows-shape-ne0.false, le-leb 1 _ third.if-rows-lt1.false) (last a.top a.rows a.shape.height fourth.if-shape-rows.false)

pub band_allowed_spec : {M : Type 1} → of.Statement.statement M
band_allowed_spec = of.Tie.close (of.Tie.spec rem-if1 returns rem-if2 returns-2 returns-3 returns-4 returns-5)
