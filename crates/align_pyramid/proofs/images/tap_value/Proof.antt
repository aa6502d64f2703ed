-- The row is inside the image, so its words are values.
use Rattle.align_pyramid.specs.Words.{image_at, word_at, Row}
use Rattle.align_pyramid.specs.WordsLaws.{row-held}
use Rattle.std.specs.Prelude.{◌+◌, ◌*◌}
use Rattle.algebra.specs.Prelude.{ap, ◌∙◌, ℕ, arith, rules}
use Rattle.align_pyramid.proofs.images.tap_value as of

row : (c : of.Tie.After-tap_index-y) → Row c.before.args.work.now (c.before.args.image.from + c.tap_index-y.result * c.before.args.image.width) c.before.args.image.width
row c = row-held c.tap_index-y.result c.before.requires.rows.source c.tap_index-y.ensures.1

word-requires : of.Tie.Need-word-requires
word-requires c κs = (row c.before.before).held c.before.before.before.args.column (omega arith)

returns : of.Tie.Need-returns
unfolding image_at
returns c =
    let a = c.before.before.before.before.args in
    (c.word.ensures.0 ∙ ap (λ (y : ℕ). word_at a.work.now (a.image.from + y * a.image.width + a.column)) c.before.before.before.tap_index-y.ensures.0, c.word.ensures.1)

pub tap_value_spec : {M : Type 1} → of.Statement.statement M
tap_value_spec = of.Tie.close (of.Tie.spec
    (λ c κs. search rules) (λ c. let r = row c.before in omega arith) (λ c. let r = row c.before.before in omega arith)
    (λ c. let r = row c.before.before in omega arith) word-requires returns)
