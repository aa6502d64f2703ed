use Rattle.std.specs.Prelude.{◌*◌}
use Rattle.tile_lines.specs.Whole.Prelude.{refl, ◌∙◌, lit≤, lit<, w16, side16, sum_at, of}
use Rattle.recipe.specs.TableLaws.{rules16}
use Rattle.tile_spectrum.specs.Lines.SideFolds.{even-folded}
use Rattle.tile_spectrum.specs.Lines.Picked.{eight, eight-picked, all-most}
use Rattle.tile_spectrum.specs.Lines.WholeFolds.{line-wider, sums_most, places-held}
use Rattle.tile_lines.proofs.whole.even_places.Goals as goal

pub sums-s-requires : goal.sums-s-requires
sums-s-requires c = (lit< tt, (lit< tt, (refl, line-wider (lit≤ tt) c.requires)))

pub even-requires : goal.even-requires
unfolding side16
even-requires c = all-most w16 (sums_most side16 8 c.requires (c.sums-s.ensures side16 refl)) tt eight

pub returns : goal.returns
unfolding side16
returns c =
    let x = of c.args.x.now in
    let e = c.sums-s.ensures side16 refl in
    c.even.ensures ∙ places-held side16 w16 8 eight (sum_at x) (eight-picked (sum_at x)) (sums_most side16 8 c.requires e) tt e (λ i. 2 * i) _ (λ i. even-folded rules16 x i)
