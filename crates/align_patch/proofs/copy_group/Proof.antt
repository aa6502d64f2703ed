-- Either all samples lie in the row and are copied at once, or those outside are mirrored.
use Rattle.algebra.specs.Prelude.{sym, ◌∙◌, arith, rules, to_z-of_z}
use Rattle.align_pyramid.specs.WordsLaws.{row-part}
use Rattle.align_patch.specs.CopyLaws.{copied-inside}
use Rattle.align_patch.proofs.copy_group as of

index-requires : of.Tie.Need-index-x-requires
index-requires c κs = let s = c.before in (rw (to_z-of_z s.ranges.column) (record { most = omega (arith, s.requires.near) }), s.requires.wide_small)

copy-eight-requires : of.Tie.Need-copy_eight-requires
copy-eight-requires c κs = let s = c.before.before.before.before in (row-part s.requires.row _ _ (omega arith), s.requires.room)

returns : of.Tie.Need-returns-then-x-width
returns c =
    let s = c.before.before.before.before.before.before.before in
    let x = c.before.before.before.before.before.index-x in
    copied-inside s.requires (sym (to_z-of_z s.ranges.column) ∙ x.ensures.0 (omega arith)) (omega arith) c.before.before.copy_eight.ensures

copy-outside-requires : of.Tie.Need-copy_outside-requires
copy-outside-requires c κs = let s = c.before.before.before.before in rw (to_z-of_z s.ranges.column) s.requires

returns-2 : of.Tie.Need-returns
returns-2 c = simp (to_z-of_z c.before.before.before.before.before.before.before.ranges.column) at c.before.before.copy_outside.ensures

pub copy_group_spec : {M : Type 1} → of.Statement.statement M
copy_group_spec = of.Tie.close (of.Tie.spec
    index-requires (λ c. search rules) (λ c. search rules) copy-eight-requires (λ c. search rules) returns
    copy-outside-requires (λ c. search rules) returns-2)
