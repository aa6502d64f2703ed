use Rattle.std.specs.Prelude.{◌+◌, ◌*◌}
use Rattle.algebra.specs.Prelude.{refl}
use Rattle.tile_lines32_whole.specs.Prelude.{◌∙◌, w16, side16, difference_of, of}
use Rattle.recipe.specs.TableLaws.{rules16}
use Rattle.tile_spectrum.specs.Lines.SideFolds.{odd-folded}
use Rattle.tile_spectrum.specs.Lines.Picked.{eight, eight-picked, all-most}
use Rattle.tile_spectrum.specs.Lines.WholeFolds.{differences-most, places-held}
use Rattle.tile_lines32_whole.proofs.second_places.Goals as goal

pub odd-requires : goal.odd-requires
unfolding side16
odd-requires c = all-most w16 (differences-most side16 8 c.requires (c.differences-b.ensures side16 refl)) tt eight

pub returns : goal.returns
unfolding side16
returns c =
    let x = of c.args.s.now in
    let e = c.differences-b.ensures side16 refl in
    c.odd.ensures ∙ places-held side16 w16 8 eight (difference_of side16 x) (eight-picked (difference_of side16 x)) (differences-most side16 8 c.requires e) tt e (λ i. 2 * i + 1) _ (λ i. odd-folded rules16 x i)
