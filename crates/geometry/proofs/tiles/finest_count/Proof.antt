-- The side is one of two.
use Rattle.algebra.specs.Prelude.{refl, arith, rules}
use mathlib.Core.Logic.{⊎_elim}
use Rattle.geometry.proofs.tiles.finest_count as of

returns : of.Tie.Need-returns-then-side-eq32
returns c = rw c.if-side-eq32.true (refl, omega (arith, c.before.requires.1))

returns-2 : of.Tie.Need-returns
returns-2 c =
    let s = c.before in
    ⊎_elim (λ e. rw e (refl, omega (arith, s.requires.1))) (λ e. absurd (c.if-side-eq32.false e)) s.requires.0.is

pub finest_count_spec : {M : Type 1} → of.Statement.statement M
finest_count_spec = of.Tie.close (of.Tie.spec (λ c. search rules) returns (λ c. search rules) returns-2)
