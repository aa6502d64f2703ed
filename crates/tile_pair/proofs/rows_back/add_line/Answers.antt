use Rattle.std.specs.Prelude.{◌^◌}
use Rattle.tile_pair.specs.Prelude.{ap, ◌∙◌, arith, true, false, rules, lit≤, lit<, side16, away}
use Rattle.tile_spectrum.specs.Lines.BackSizes.{half-sum-most}
use Rattle.tile_spectrum.specs.Lines.DoubleCasts.{whole_or, whole_more}
use Rattle.tile_spectrum.specs.HalvesLaws.{halves_row, half_at, half-is, half-below, half-rounded}
use Rattle.tile_spectrum.specs.AddingLaws.{adding-below}
use Rattle.tile_spectrum.specs.Rounded.{rounded-is}
use Rattle.tile_pair.proofs.WholeRows.{row_at}
use Rattle.tile_pair.proofs.rows_back.add_line.Goals as goal

-- where noise is low
pub add_each-requires : goal.add_each-requires
add_each-requires c =
    let w = halves_row side16 half-sum-most (row_at c.args.low true c.if-low.true c.requires.whole) c.halves.ensures.is (lit≤ tt) in
    (lit< tt, (lit< tt, (λ l a n h. whole_more (lit≤ tt) (whole_or w l a h), λ l a r n h p. adding-below c.requires.sums_most l r (omega (arith, p.1.most)))))

pub returns-then-low : goal.returns-then-low
returns-then-low c w =
    let x = halves_row side16 half-sum-most (row_at c.args.low true c.if-low.true w) c.halves.ensures.is (lit≤ tt) in
    c.add_each.ensures (λ l. away (half_at side16 w.number l) (2 ^ 31)) (λ l a r n h p. p.0 ∙ rounded-is (whole_or x l a h) (lit< tt))

-- where it is any
pub whole_halves-requires : goal.whole_halves-requires
whole_halves-requires c = (row_at c.args.low false c.if-low.false c.requires.whole, search rules)

pub add_each-requires-2 : goal.add_each-requires-2
add_each-requires-2 c =
    let w = row_at c.args.low false c.if-low.false c.requires.whole in
    let e = c.whole_halves.ensures w in
    (lit< tt, (lit< tt, (λ l a n h. omega (arith, half-below side16 half-sum-most w e l a h), λ l a r n h p. adding-below c.requires.sums_most l r (rw p (half-rounded side16 half-sum-most w e l a h (lit≤ tt))))))

pub returns : goal.returns
returns c w =
    let e = c.whole_halves.ensures (row_at c.args.low false c.if-low.false w) in
    c.add_each-2.ensures (λ l. away (half_at side16 w.number l) (2 ^ 31))
    (λ l a r n h p. p ∙ ap (λ z. away z (2 ^ 31)) (half-is side16 half-sum-most (row_at c.args.low false c.if-low.false w) e l a h))
