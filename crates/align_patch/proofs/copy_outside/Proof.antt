-- Each store is one of a part written from its front, and the place is that of the next column.
use lib.IntN.{+ℤ_assoc, +ℤ_idr}
use Rattle.std.specs.Prelude.{◌≡◌, ◌+◌, ◌-◌, ◌+ℤ◌}
use Rattle.algebra.specs.Prelude.{ap, sym, ◌∙◌, arith, rules, pos, w64, to_z, of_z, to_z-of_z}
use Rattle.geometry.specs.Read.{mirrored}
use Rattle.sequences.specs.Write.{Writing, write-start, write-turn, write_done}
use Rattle.align_pyramid.specs.Words.{word_at}
use Rattle.align_patch.specs.Copies.{sample_of}
use Rattle.align_patch.specs.Period.{place_in, next_in}
use Rattle.align_patch.specs.PeriodLaws.{place-below, place-reads, place-next}
use Rattle.align_patch.proofs.copy_outside as of

abbrev invariant-loop-j : of.Tie.invariant-loop-j
invariant-loop-j words start width column out₀ to place₀ j₀ out place j =
    (Writing out₀ to (sample_of words start width (to_z w64 column)) 8 j out) × (place ≡ place_in width (to_z w64 column +ℤ pos j))

abbrev decreases-loop-j : of.Tie.decreases-loop-j
decreases-loop-j words start width column out₀ to place₀ j₀ out place j = 8 - j

loop-holds : of.Tie.Need-loop-j-init invariant-loop-j decreases-loop-j
loop-holds c = (write-start (search rules), c.first_place-place.ensures ∙ ap (place_in _) (sym (+ℤ_idr _)))

folded-requires : of.Tie.Need-folded-x-requires invariant-loop-j decreases-loop-j
folded-requires c κs =
    let s = c.before.before.before.before in
    record { some = s.requires.wide; most = omega arith; place_in = rw c.before.loop-j.invariant.1 (place-below s.args.width s.requires.wide _) }

sample-requires : of.Tie.Need-sample-requires invariant-loop-j decreases-loop-j
sample-requires c κs = c.before.before.before.before.before.requires.row.held _ c.folded-x.ensures.1

next-place-requires : of.Tie.Need-next_place-place-requires invariant-loop-j decreases-loop-j
next-place-requires c κs =
    let s = c.before.before.before.before.before.before in
    (rw c.before.before.before.loop-j.invariant.1 (place-below s.args.width s.requires.wide _), s.requires.wide_small)

loop-again : of.Tie.Need-loop-j-preserved invariant-loop-j decreases-loop-j
loop-again c =
    let s = c.before.before.before.before.before.before.before in
    let l = c.before.before.before.before.loop-j in
    let z = to_z w64 (of_z w64 s.args.column) +ℤ pos l.j in (
      write-turn l.invariant.0 (omega arith)
          (c.before.sample.ensures ∙ ap (λ x. word_at s.args.words.now (s.args.start + x)) (c.before.before.folded-x.ensures.0 ∙ ap (mirrored s.args.width) l.invariant.1 ∙ place-reads s.args.width s.requires.wide z)),
      c.next_place-place.ensures ∙ ap (next_in s.args.width) l.invariant.1 ∙ sym (place-next s.args.width s.requires.wide z) ∙ ap (place_in s.args.width) (+ℤ_assoc (to_z w64 (of_z w64 s.args.column)) (pos l.j) (pos 1)),
    )

returns : of.Tie.Need-returns invariant-loop-j decreases-loop-j
returns c = simp (to_z-of_z c.before.before.before.before.ranges.column) at (write_done c.before.loop-j.invariant.0 (omega arith))

pub copy_outside_spec : {M : Type 1} → of.Statement.statement M
copy_outside_spec = of.Tie.close (of.Tie.spec
    invariant-loop-j decreases-loop-j (λ c κs. search rules) loop-holds folded-requires (λ c. search rules) sample-requires
    (λ c. search rules) (λ c. search rules) (λ c. search rules) next-place-requires (λ c. search rules)
    (λ c. search rules) loop-again (λ c. search rules) returns)
