-- Row by row; the stores leave the image that is read as it was.
use Rattle.std.specs.Prelude.{◌≡◌, ◌+◌, ◌-◌, ◌*◌, ◌/◌, ◌≤◌}
use Rattle.align_pyramid.specs.Prelude.{refl, ap, arith, rules, length, pos}
use Rattle.align_pyramid.specs.Words.{halved_in}
use Rattle.align_pyramid.specs.WordsLaws.{kept-source, kept_halved}
use Rattle.sequences.specs.Place.{row_room}
use Rattle.align_pyramid.proofs.Lay.{Laying, lay-start, lay-turn, lay_done, laying-kept}
use Rattle.align_pyramid.proofs.images.halve as of

abbrev invariant-loop-row : of.Tie.invariant-loop-row
invariant-loop-row work₀ image to sums₀ row₀ row-end work sums row = (Laying work₀ to (image.height / 2) (image.width / 2) (halved_in work₀ image) row work) × (length sums ≡ length sums₀)

abbrev decreases-loop-row : of.Tie.decreases-loop-row
decreases-loop-row work₀ image to sums₀ row₀ row-end work sums row = image.height / 2 - row

room : (c : of.Tie.In-loop-row invariant-loop-row decreases-loop-row) → let i = c.before.before.before.before.args.image in c.before.loop-row.row * (i.width / 2) + i.width / 2 ≤ i.height / 2 * (i.width / 2)
room c = row_room c.before.loop-row.row _ _ (omega arith)

halve-row-requires : of.Tie.Need-halve_row-requires invariant-loop-row decreases-loop-row
halve-row-requires c κs =
    let s = c.before.before.before.before.before.before.before in
    let a = s.args in
    let r = room c.before.before.before in
    let source = kept-source (laying-kept c.before.before.before.before.loop-row.invariant.0) a.image (omega arith) s.requires.0.source in
    record { rows = record { source = source; row_in = omega arith }; room = omega arith; sums_room = omega arith }

loop-again : of.Tie.Need-loop-row-preserved invariant-loop-row decreases-loop-row
loop-again c =
    let called = c.before.before.before in
    let turn = called.before.before.before.before.before.loop-row in
    let s = called.before.before.before.before.before.before.before.before in
    let a = s.args in (
      lay-turn turn.invariant.0 (omega arith)
          (λ column k. ap pos (kept_halved (laying-kept turn.invariant.0) a.image (omega arith) s.requires.0.source _ column))
          called.halve_row.ensures,
      search rules,
    )

returns : of.Tie.Need-returns invariant-loop-row decreases-loop-row
returns c = lay_done c.before.loop-row.invariant.0 (omega arith)

pub halve_spec : {M : Type 1} → of.Statement.statement M
halve_spec = of.Tie.close (of.Tie.spec
    invariant-loop-row decreases-loop-row (λ c. (lay-start (search rules), refl)) (λ c. omega (arith, room c.before))
    (λ c. omega (arith, room c.before)) halve-row-requires (λ c. search rules) (λ c. search rules)
    loop-again (λ c. search rules) (λ c. search rules) returns)
