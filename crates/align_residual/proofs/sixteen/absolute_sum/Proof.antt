-- Each four rows end within what is low.
use Rattle.align_residual.specs.Residual.{gap}
use Rattle.align_residual.specs.SixteenLaws.{compared-less, total-whole, absolute-pairs}
use Rattle.algebra.specs.Prelude.{◌∙◌, arith, rules}
use Rattle.align_residual.proofs.sixteen.absolute_sum as of

columns-requires : of.Tie.Need-columns-first-requires
columns-requires c κs = let s = c.before.before in (compared-less s.requires.0 _ _ (omega arith) (omega arith), s.requires.1)

columns-requires-2 : of.Tie.Need-columns-second-requires
columns-requires-2 c κs = let s = c.before.before.before in (compared-less s.requires.0 _ _ (omega arith) (omega arith), s.requires.1)

columns-requires-3 : of.Tie.Need-columns-third-requires
columns-requires-3 c κs = let s = c.before.before.before.before in (compared-less s.requires.0 _ _ (omega arith) (omega arith), s.requires.1)

columns-requires-4 : of.Tie.Need-columns-fourth-requires
columns-requires-4 c κs = let s = c.before.before.before.before.before in (compared-less s.requires.0 _ _ (omega arith) (omega arith), s.requires.1)

returns : of.Tie.Need-returns
returns c = let d = c.before in
    let a = d.before.before.before.before.before.before.args in
    let e = c.total.ensures in
    (total-whole gap a.tile.now a.window.now a.start a.stride _ _ _ _ _ d.before.before.before.columns-first.ensures d.before.before.columns-second.ensures d.before.columns-third.ensures d.columns-fourth.ensures e.0 ∙ absolute-pairs a.tile.now a.window.now a.start a.stride, e.1)

pub absolute_sum_spec : {M : Type 1} → of.Statement.statement M
absolute_sum_spec = of.Tie.close (of.Tie.spec
    columns-requires (λ c. search rules) (λ c. search rules) columns-requires-2 (λ c. search rules)
    (λ c. search rules) columns-requires-3 (λ c. search rules) (λ c. search rules)
    columns-requires-4 (λ c κs. search rules) returns)
