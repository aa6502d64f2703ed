-- The side is one of two.
use Rattle.std.specs.Prelude.{◌≡◌, ◌+◌, ◌-◌, ◌*◌}
use Rattle.align_tile.specs.Prelude.{subst, rules, Compared}
use mathlib.Core.Logic.{⊎_elim}
use Rattle.align_tile.proofs.square_sum as of

side_is : (c : of.Tie.Else-side-eq32) → c.before.before.before.args.side ≡ 16
side_is c = ⊎_elim (λ e. e) (λ e. absurd (c.if-side-eq32.false e)) c.before.before.before.requires.sided.is

absolute-sum-requires : of.Tie.Need-absolute_sum-requires
absolute-sum-requires c κs = let s = c.before.before.before in
    let a = s.args in
    (subst (λ n. Compared a.samples.now a.other.now (n * n) (a.start + (n - 1) * a.stride + n)) c.if-side-eq32.true s.requires.compared, s.requires.close)

returns : of.Tie.Need-returns-then-side-eq32
returns c = rw c.before.if-side-eq32.true c.absolute_sum.ensures.0

absolute-sum-requires-2 : of.Tie.Need-absolute_sum-requires-2
absolute-sum-requires-2 c κs = let s = c.before.before.before in
    let a = s.args in
    (subst (λ n. Compared a.samples.now a.other.now (n * n) (a.start + (n - 1) * a.stride + n)) (side_is c) s.requires.compared, s.requires.close)

returns-2 : of.Tie.Need-returns
returns-2 c = rw (side_is c.before) c.absolute_sum-2.ensures.0

pub square_sum_spec : {M : Type 1} → of.Statement.statement M
square_sum_spec = of.Tie.close (of.Tie.spec
    absolute-sum-requires (λ c. search rules) returns absolute-sum-requires-2 (λ c. search rules) returns-2)
