use Rattle.std.specs.Prelude.{◌+◌, ◌*◌}
use Rattle.tile_lines.specs.Whole.Prelude.{refl, ◌∙◌, lit≤, lit<, w16, side16, difference_at, of}
use Rattle.recipe.specs.TableLaws.{rules16}
use Rattle.tile_spectrum.specs.Lines.SideFolds.{odd-folded}
use Rattle.tile_spectrum.specs.Lines.Picked.{eight, eight-picked, all-most}
use Rattle.tile_spectrum.specs.Lines.WholeFolds.{line-wider, differences-most, places-held}
use Rattle.tile_lines.proofs.whole.odd_places.Goals as goal

pub differences-t-requires : goal.differences-t-requires
differences-t-requires c = (lit< tt, (lit< tt, (refl, line-wider (lit≤ tt) c.requires)))

pub odd-requires : goal.odd-requires
unfolding side16
odd-requires c = line-wider (lit≤ tt) (all-most w16 (differences-most side16 8 c.requires (c.differences-t.ensures side16 refl)) tt eight)

pub returns : goal.returns
unfolding side16
returns c =
    let x = of c.args.x.now in
    let e = c.differences-t.ensures side16 refl in
    c.odd.ensures ∙ places-held side16 w16 8 eight (difference_at x) (eight-picked (difference_at x)) (differences-most side16 8 c.requires e) tt e (λ i. 2 * i + 1) _ (λ i. odd-folded rules16 x i)
