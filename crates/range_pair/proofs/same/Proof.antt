-- Either number decides.
use Rattle.std.specs.Prelude.{◌≡◌}
use Rattle.algebra.specs.Prelude.{sym, ap₂, T, subst, rules}
use borrow.Author.Tests.{eqb-true}
use Rattle.range_pair.specs.declared.Noises.{Noises}
use Rattle.range_pair.proofs.same as of

returns : of.Tie.Need-returns-then-a-b
returns c e = absurd (subst T (sym e) tt)

both_equal : (a b : Noises) → a.first ≡ b.first → a.second ≡ b.second → a ≡ b
both_equal a b e f = ap₂ (λ m n. record { first = m; second = n }) e f

returns-2 : of.Tie.Need-returns
returns-2 c e = both_equal _ _ (search rules) (eqb-true _ _ e)

pub same_spec : {M : Type 1} → of.Statement.statement M
same_spec = of.Tie.close (of.Tie.spec returns returns-2)
