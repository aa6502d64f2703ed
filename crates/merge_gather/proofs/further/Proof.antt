-- The row's places, and a block's: all small.
use Rattle.std.specs.Prelude.{◌*◌, ◌≤◌}
use Rattle.algebra.specs.Prelude.{refl, arith}
use Rattle.merge_gather.proofs.Weighing.{side-most, columns-most, halves_most}
use Rattle.merge_gather.proofs.further as of

words : (c : of.Tie.Start) → c.args.span.side * c.args.column ≤ 8192
words c = columns-most c.requires.sided c.args.column c.requires.column_below

halves : (c : of.Tie.Start) → 2 * c.args.span.side * (c.args.span.side * c.args.column) ≤ 524288
halves c = halves_most c.requires.sided _ (words c)

pub further_spec : {M : Type 1} → of.Statement.statement M
further_spec = of.Tie.close (of.Tie.spec
    (λ c. omega (arith, words c)) (λ c. omega (arith, side-most c.requires.sided)) (λ c. omega (arith, halves c))
    (λ c. let s = c.before in omega (arith, words s, s.requires.small.from)) (λ c. let s = c.before.before in omega (arith, words s, s.requires.small.start))
    (λ c. let s = c.before.before.before in omega (arith, halves s, s.requires.small.above)) (λ c. let s = c.before.before.before.before in omega (arith, halves s, s.requires.small.below)) (λ c. refl))
