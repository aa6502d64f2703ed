-- Each arm of the match at its row of the table; past the last row stands the default.
use Rattle.algebra.specs.Prelude.{sym, ◌∙◌, arith, rules}
use Prim.Native.Nat.{zero-le, ◌≤◌}
use lib.ListN.{get_or-eq_default}
use Rattle.file_dng.specs.Tags.TestLaws.{past}
use Rattle.file_dng.specs.Tags.Tags.{wanted, tags, tag_at}
use Rattle.file_dng.proofs.tags.tags.tag as of

returns : of.Tie.Need-returns-in-0
unfolding tag_at tags
returns c = (rw c.in-0.is c.wanted.ensures, rw c.wanted.ensures (omega arith))

returns-2 : of.Tie.Need-returns-in-1
unfolding tag_at tags
returns-2 c = (rw c.in-1.is c.wanted-in-1.ensures, rw c.wanted-in-1.ensures (omega arith))

returns-3 : of.Tie.Need-returns-in-2
unfolding tag_at tags
returns-3 c = (rw c.in-2.is c.wanted-in-2.ensures, rw c.wanted-in-2.ensures (omega arith))

returns-4 : of.Tie.Need-returns-in-3
unfolding tag_at tags
returns-4 c = (rw c.in-3.is c.wanted-in-3.ensures, rw c.wanted-in-3.ensures (omega arith))

returns-5 : of.Tie.Need-returns-in-4
unfolding tag_at tags
returns-5 c = (rw c.in-4.is c.wanted-in-4.ensures, rw c.wanted-in-4.ensures (omega arith))

returns-6 : of.Tie.Need-returns-in-5
unfolding tag_at tags
returns-6 c = (rw c.in-5.is c.wanted-in-5.ensures, rw c.wanted-in-5.ensures (omega arith))

returns-7 : of.Tie.Need-returns-in-6
unfolding tag_at tags
returns-7 c = (rw c.in-6.is c.wanted-in-6.ensures, rw c.wanted-in-6.ensures (omega arith))

returns-8 : of.Tie.Need-returns-in-7
unfolding tag_at tags
returns-8 c = (rw c.in-7.is c.wanted-in-7.ensures, rw c.wanted-in-7.ensures (omega arith))

returns-9 : of.Tie.Need-returns-in-8
unfolding tag_at tags
returns-9 c = (rw c.in-8.is c.wanted-in-8.ensures, rw c.wanted-in-8.ensures (omega arith))

returns-10 : of.Tie.Need-returns-in-9
unfolding tag_at tags
returns-10 c = (rw c.in-9.is c.wanted-in-9.ensures, rw c.wanted-in-9.ensures (omega arith))

returns-11 : of.Tie.Need-returns-in-10
unfolding tag_at tags
returns-11 c = (rw c.in-10.is c.wanted-in-10.ensures, rw c.wanted-in-10.ensures (omega arith))

returns-12 : of.Tie.Need-returns-in-11
unfolding tag_at tags
returns-12 c = (rw c.in-11.is c.wanted-in-11.ensures, rw c.wanted-in-11.ensures (omega arith))

returns-13 : of.Tie.Need-returns-in-12
unfolding tag_at tags
returns-13 c = (rw c.in-12.is c.wanted-in-12.ensures, rw c.wanted-in-12.ensures (omega arith))

returns-14 : of.Tie.Need-returns-in-13
unfolding tag_at tags
returns-14 c = (rw c.in-13.is c.wanted-in-13.ensures, rw c.wanted-in-13.ensures (omega arith))

returns-15 : of.Tie.Need-returns-in_default
unfolding tag_at tags
returns-15 c =
    let none = c.in_default.in_default-own.rest in
    let beyond : 14 ≤ c.args.row = past (past (past (past (past (past (past (past (past (past (past (past (past (past zero-le none.0.0.0.0.0.0.0.0.0.0.0.0.0.1) none.0.0.0.0.0.0.0.0.0.0.0.0.1) none.0.0.0.0.0.0.0.0.0.0.0.1) none.0.0.0.0.0.0.0.0.0.0.1) none.0.0.0.0.0.0.0.0.0.1) none.0.0.0.0.0.0.0.0.1) none.0.0.0.0.0.0.0.1) none.0.0.0.0.0.0.1) none.0.0.0.0.0.1) none.0.0.0.0.1) none.0.0.0.1) none.0.0.1) none.0.1) none.1 in
    (c.wanted-in_default.ensures ∙ sym (get_or-eq_default tags (wanted 0 0 0 0) {n = c.args.row} beyond), rw c.wanted-in_default.ensures (omega arith))

pub tag_spec : {M : Type 1} → of.Statement.statement M
tag_spec = of.Tie.close (of.Tie.spec
    (λ c κs. search rules) (λ c κs. search rules) (λ c κs. search rules) (λ c κs. search rules)
    (λ c κs. search rules) (λ c κs. search rules) (λ c κs. search rules) (λ c κs. search rules)
    (λ c κs. search rules) (λ c κs. search rules) (λ c κs. search rules) (λ c κs. search rules)
    (λ c κs. search rules) (λ c κs. search rules) (λ c κs. search rules) returns returns-2 returns-3
    returns-4 returns-5 returns-6 returns-7 returns-8 returns-9 returns-10 returns-11 returns-12
    returns-13 returns-14 returns-15)
