use Rattle.std.specs.Prelude.{◌*◌}
use Rattle.algebra.specs.Prelude.{refl}
use Rattle.tile_lines32_whole.specs.Prelude.{◌∙◌, w16, side16, sum_of, of}
use Rattle.recipe.specs.TableLaws.{rules16}
use Rattle.tile_spectrum.specs.Lines.SideFolds.{even-folded}
use Rattle.tile_spectrum.specs.Lines.Picked.{eight, eight-picked, all-most}
use Rattle.tile_spectrum.specs.Lines.WholeFolds.{sums_most, places-held}
use Rattle.tile_lines32_whole.proofs.first_places.Goals as goal

pub even-requires : goal.even-requires
unfolding side16
even-requires c = all-most w16 (sums_most side16 8 c.requires (c.sums-a.ensures side16 refl)) tt eight

pub returns : goal.returns
unfolding side16
returns c =
    let x = of c.args.s.now in
    let e = c.sums-a.ensures side16 refl in
    c.even.ensures ∙ places-held side16 w16 8 eight (sum_of side16 x) (eight-picked (sum_of side16 x)) (sums_most side16 8 c.requires e) tt e (λ i. 2 * i) _ (λ i. even-folded rules16 x i)
