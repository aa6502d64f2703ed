-- Each turn copies one row more; the rows before it stay.
use Rattle.std.specs.Prelude.{◌≡◌, ◌+◌, ◌-◌, ◌*◌, ◌^◌, ◌≤◌, ◌+ℤ◌}
use Rattle.algebra.specs.Prelude.{refl, ap, ap₂, ◌∙◌, arith, rules, length, pos}
use Rattle.geometry.specs.Read.{inside, read}
use Rattle.algebra.specs.Back.{back, back-small}
use Rattle.sequences.specs.Place.{row_room}
use Rattle.align_pyramid.specs.Words.{word_at, image_at, read_in}
use Rattle.align_pyramid.specs.WordsLaws.{row-held}
use Rattle.align_patch.specs.Copies.{Copied}
use Rattle.align_patch.specs.CopyLaws.{copied-turn}
use Rattle.align_patch.proofs.copy_square as of

abbrev invariant-loop-i : of.Tie.invariant-loop-i
invariant-loop-i words image corner n out₀ i₀ out i = (i ≤ n) × (length out ≡ length out₀) × Copied out i n (read_in words image) corner.down corner.right

abbrev decreases-loop-i : of.Tie.decreases-loop-i
decreases-loop-i words image corner n out₀ i₀ out i = n - i

loop-holds : of.Tie.Need-loop-i-init invariant-loop-i decreases-loop-i
loop-holds c = (omega arith, refl, record { cell = λ i j h k. absurd (omega arith) })

shifted-requires : of.Tie.Need-shifted-requires invariant-loop-i decreases-loop-i
shifted-requires c κs = let s = c.before.before.before.before in
    let w = s.requires.near in
    rw (back-small s.args.corner.down (2 ^ 20) w.vertical tt) (record { most = omega (arith, w.vertical) }, omega arith)

place : (c : of.Tie.After-inside-y invariant-loop-i decreases-loop-i) → let i = c.before.before.before.before.before.before.args.image in c.inside-y.result * i.width + i.width ≤ i.height * i.width
place c = row_room _ _ c.before.before.before.before.before.before.args.image.width c.inside-y.ensures.1

mul-copy-row : of.Tie.Need-overflow_mul-y invariant-loop-i decreases-loop-i
mul-copy-row c = omega (arith, place c.before, c.before.before.before.before.before.before.before.requires.source.holds.room)

add-copy-row : of.Tie.Need-overflow_add-image invariant-loop-i decreases-loop-i
add-copy-row c = omega (arith, place c.before.before, c.before.before.before.before.before.before.before.before.requires.source.holds.room)

mul-copy-row-2 : of.Tie.Need-overflow_mul-i invariant-loop-i decreases-loop-i
mul-copy-row-2 c = omega (arith, row_room _ _ c.before.before.before.before.before.before.before.before.before.args.n c.before.before.before.before.before.before.loop-i-test.true)

copy-row-requires : of.Tie.Need-copy_row-requires invariant-loop-i decreases-loop-i
copy-row-requires c κs = let m = c.before.before.before.before in
    let turn = m.before.before.before in
    let s = turn.before.before.before in
    let w = s.requires.near in
    record {
      row = row-held _ s.requires.source m.inside-y.ensures.1;
      wide = s.requires.source.wide;
      wide_small = s.requires.source.wide_small;
      near = rw (back-small s.args.corner.right (2 ^ 20) w.sideways tt) (omega (arith, w.sideways, s.requires.small));
      eights = s.requires.eights;
      small = s.requires.small;
      room = omega (arith, row_room _ _ s.args.n turn.loop-i-test.true);
    }

loop-again : of.Tie.Need-loop-i-preserved invariant-loop-i decreases-loop-i
unfolding read image_at
loop-again c = let y = c.before.before.before.before.before.before.before in
    let m = y.before.shifted in
    let turn = y.before.before.before in
    let l = turn.before.loop-i in
    let s = turn.before.before.before in
    let a = s.args in
    let i = a.image in
    let room = row_room _ _ a.n turn.loop-i-test.true in (
      omega arith,
      omega arith,
      rw c.before.before.copy_row.ensures
          (copied-turn l.invariant.2 (omega arith) _
          (λ j. ap₂ (λ y x. word_at a.words.now (i.from + y * i.width + inside i.width (x +ℤ pos j)))
          (y.inside-y.ensures.0
          ∙ ap (inside i.height) (back m.result m.type_inv ∙ m.ensures ∙ ap (λ z. z +ℤ pos l.i) (back-small a.corner.down (2 ^ 20) s.requires.near.vertical tt)))
          (back-small a.corner.right (2 ^ 20) s.requires.near.sideways tt))),
    )

returns : of.Tie.Need-returns invariant-loop-i decreases-loop-i
returns c = let e : c.before.loop-i.i ≡ c.before.before.before.args.n = omega arith in rw e at c.before.loop-i.invariant.2

pub copy_square_spec : {M : Type 1} → of.Statement.statement M
copy_square_spec = of.Tie.close (of.Tie.spec
    invariant-loop-i decreases-loop-i loop-holds shifted-requires (λ c κs. search rules) mul-copy-row add-copy-row
    mul-copy-row-2 copy-row-requires (λ c. search rules) (λ c. search rules) loop-again
    (λ c. search rules) returns)
