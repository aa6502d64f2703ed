-- Each case is one of the definition's.
use Rattle.std.specs.Prelude.{◌*◌}
use Rattle.algebra.specs.Prelude.{sym, ap₂}
use Rattle.tile_spectrum.specs.Apart.{is-own, is-paired}
use Rattle.range_pair.specs.Factors.{times_at}
use Rattle.range_pair.proofs.distances.times as of

returns : of.Tie.Need-returns-then-v-eq0
unfolding times_at
returns c = sym (ap₂ ◌*◌ (is-own _ 2 1 c.if-u-eq0.true) (is-own _ 1 2 c.if-v-eq0.true))

returns-2 : of.Tie.Need-returns-then-u-eq0
unfolding times_at
returns-2 c = sym (ap₂ ◌*◌ (is-own _ 2 1 c.if-u-eq0.true) (is-paired _ 1 2 c.if-v-eq0.false))

returns-3 : of.Tie.Need-returns-then-v-eq0-2
unfolding times_at
returns-3 c = sym (ap₂ ◌*◌ (is-paired _ 2 1 c.if-u-eq0.false) (is-own _ 1 2 c.if-v-eq0-2.true))

returns-4 : of.Tie.Need-returns
unfolding times_at
returns-4 c = sym (ap₂ ◌*◌ (is-paired _ 2 1 c.if-u-eq0.false) (is-paired _ 1 2 c.if-v-eq0-2.false))

pub times_spec : {M : Type 1} → of.Statement.statement M
times_spec = of.Tie.close (of.Tie.spec returns returns-2 returns-3 returns-4)
