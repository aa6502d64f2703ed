-- The table of either side.
use Rattle.merge_gather.specs.Prelude.{tab, windows, windows32}
use borrow.Author.Tests.{eq-eqb, ne_eqb}
use Rattle.merge_gather.specs.Gather.{window_table}
use Rattle.merge_gather.proofs.window_of as of

returns : of.Tie.Need-returns-then-side-eq32
unfolding window_table windows32
returns c = rw (eq-eqb _ 32 c.if-side-eq32.true)

returns-2 : of.Tie.Need-returns
unfolding window_table windows tab
returns-2 c = rw (ne_eqb _ 32 c.if-side-eq32.false)

pub window_of_spec : {M : Type 1} → of.Statement.statement M
window_of_spec = of.Tie.close (of.Tie.spec returns returns-2)
