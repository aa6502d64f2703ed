-- The first entry that is right is read.
use Rattle.std.proofs.Common.{◌≡◌, ◌+◌, arith, sym, ap, ap₂, ◌∙◌}
use Rattle.algebra.specs.Prelude.{ℕ}
use Rattle.file_dng.specs.Tiff.Fields.{right, first_field, field_at}
use Rattle.file_dng.specs.Tiff.FieldLaws.{field_is}
use Rattle.file_dng.specs.Tiff.ScanLaws.{seek_hit, seek-turn, seek-done}
use Rattle.file_dng.specs.Tiff.Directory.{directory_start, entries, entries_from}
use Rattle.file_dng.proofs.tiff.fields.field.Goals as goal

pub returns-then-right : goal.returns-then-right
unfolding entries
returns-then-right c =
    let file = c.args.file.now in
    let start : c.directory_start-start.result + 2 ≡ directory_start file + 2 = omega (arith, c.directory_start-start.ensures.0) in
    let all = ap₂ (λ (at n : ℕ). first_field file c.args.wanted (entries_from file at n)) start c.entry_count-count.ensures.0 in
    let hit = ap (right c.args.wanted) (sym c.entry_at-entry.ensures.is) ∙ sym c.right.ensures ∙ c.if-right.true in
    field_is (ap (field_at file) c.entry_at-entry.ensures.is ∙ seek_hit c.loop-i.invariant c.loop-i-test.true hit ∙ all) c.field_at.ensures

pub loop-i-preserved : goal.loop-i-preserved
loop-i-preserved c =
    seek-turn c.loop-i.invariant c.loop-i-test.true (ap (right c.args.wanted) (sym c.entry_at-entry.ensures.is) ∙ sym c.right.ensures ∙ c.if-right.false)

pub returns : goal.returns
unfolding entries
returns c =
    let file = c.args.file.now in
    let start : c.directory_start-start.result + 2 ≡ directory_start file + 2 = omega (arith, c.directory_start-start.ensures.0) in
    let all = ap₂ (λ (at n : ℕ). first_field file c.args.wanted (entries_from file at n)) start c.entry_count-count.ensures.0 in
    record { is = seek-done c.loop-i.invariant c.loop-i-test.false ∙ all; size_small = omega arith; at_small = omega arith }
