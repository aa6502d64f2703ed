-- Either all samples lie in the row and are copied at once, or those outside are mirrored.
use Rattle.algebra.specs.Prelude.{sym, ◌∙◌, arith, rules, to_z-of_z}
use Rattle.align_pyramid.specs.WordsLaws.{row-part}
use Rattle.align_patch.specs.CopyLaws.{copied-inside}
use Rattle.align_patch.proofs.copy_row as of

index-requires : of.Tie.Need-index-x-requires
index-requires c κs = let s = c.before in (rw (to_z-of_z s.ranges.column) (record { most = omega (arith, s.requires.near) }), s.requires.wide_small)

copy-inside-requires : of.Tie.Need-copy_inside-requires
copy-inside-requires c κs = let s = c.before.before.before.before in record { row = row-part s.requires.row _ _ (omega arith); eights = s.requires.eights; room = s.requires.room }

returns : of.Tie.Need-returns-then-x-n
returns c =
    let s = c.before.before.before.before.before.before.before in
    let x = c.before.before.before.before.before.index-x in
    copied-inside s.requires (sym (to_z-of_z s.ranges.column) ∙ x.ensures.0 (omega arith)) (omega arith) c.before.before.copy_inside.ensures

copy-edge-requires : of.Tie.Need-copy_edge-requires
copy-edge-requires c κs = let s = c.before.before.before.before in rw (to_z-of_z s.ranges.column) s.requires

returns-2 : of.Tie.Need-returns
returns-2 c = simp (to_z-of_z c.before.before.before.before.before.before.before.ranges.column) at c.before.before.copy_edge.ensures

pub copy_row_spec : {M : Type 1} → of.Statement.statement M
copy_row_spec = of.Tie.close (of.Tie.spec
    index-requires (λ c. search rules) (λ c. search rules) copy-inside-requires (λ c. search rules) returns
    copy-edge-requires (λ c. search rules) returns-2)
