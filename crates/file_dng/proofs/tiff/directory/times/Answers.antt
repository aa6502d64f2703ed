-- An entry of the tag counts as one.
use Rattle.std.proofs.Common.{◌≡◌, ◌+◌, ◌≤◌, arith, refl, ap, ap₂, ◌∙◌}
use Rattle.algebra.specs.Prelude.{Bool, true, false, cond, eqb, ℕ}
use mir.Val.{bool_byte}
use Rattle.file_dng.specs.Tiff.ScanLaws.{count_turn, count-done}
use Rattle.file_dng.specs.Tiff.Directory.{directory_start, entries, entries_from, times_of}
use Rattle.file_dng.proofs.tiff.directory.times.Goals as goal

one_byte : (b : Bool) → bool_byte b ≡ cond b 1 0
one_byte true = refl
one_byte false = refl

one-most : (b : Bool) → bool_byte b ≤ 1
one-most true = omega arith
one-most false = omega arith

pub loop-i-preserved : goal.loop-i-preserved
loop-i-preserved c =
    let same = c.short_at-found.result in
    let most : c.from-seen.result ≤ 1 = omega (arith, c.from-seen.ensures, one-most (eqb same c.args.tag)) in
    count_turn c.loop-i.invariant c.loop-i-test.true most (c.from-seen.ensures ∙ one_byte (eqb same c.args.tag) ∙ ap (λ (n : ℕ). cond (eqb n c.args.tag) 1 0) c.short_at-found.ensures.0)

pub returns : goal.returns
unfolding entries
returns c =
    let file = c.args.file.now in
    let start : c.directory_start-start.result + 2 ≡ directory_start file + 2 = omega (arith, c.directory_start-start.ensures.0) in
    count-done c.loop-i.invariant c.loop-i-test.false ∙ ap₂ (λ (at n : ℕ). times_of c.args.tag (entries_from file at n)) start c.entry_count-count.ensures.0
