-- Both parts stand in the table and are at most 8.
use Rattle.std.specs.Prelude.{◌≡◌, ◌-ℤ◌}
use Rattle.align_search.specs.Prelude.{sym, subst, ◌∙◌, ℕ, rules, get_or, ℤ, pos, Vector, Within}
use Rattle.algebra.specs.Back.{back}
use Rattle.align_search.specs.Table.{downs, rights, tabled}
use Rattle.align_search.specs.OffsetLaws.{offset-tabled, parts-most, offset-within}
use Rattle.align_search.proofs.window.offset as of

unbiased-requires : of.Tie.Need-unbiased-requires
unfolding downs rights
unbiased-requires c κs = (parts-most c.before.before.args.k c.before.before.requires).0

unbiased-requires-2 : of.Tie.Need-unbiased-requires-2
unfolding downs rights
unbiased-requires-2 c κs = (parts-most c.before.before.before.before.before.args.k c.before.before.before.before.before.requires).1

is : (k : ℕ) (x y : ℤ) → x ≡ pos (get_or downs k 0) -ℤ pos 4 → y ≡ pos (get_or rights k 0) -ℤ pos 4 → ◌≡◌ {A = Vector} (record { down = x; right = y }) (tabled k)
unfolding tabled
is k x y e f = rw (e, f)

returns : of.Tie.Need-returns
unfolding downs rights
returns c = let s = c.before.before.before.before.before.before in
    let d = c.before.before.before.unbiased in
    let r = c.unbiased-2 in
    let e = is s.args.k _ _ (back d.result d.type_inv ∙ d.ensures) (back r.result r.type_inv ∙ r.ensures) ∙ sym (offset-tabled s.args.k s.requires) in
    (e, subst (Within 4) (sym e) (offset-within s.args.k s.requires))

pub offset_spec : {M : Type 1} → of.Statement.statement M
offset_spec = of.Tie.close (of.Tie.spec
    (λ c. search rules) unbiased-requires (λ c. search rules) unbiased-requires-2 returns)
