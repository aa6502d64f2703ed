use Rattle.algebra.specs.Prelude.{refl, lit≤, lit<}
use Rattle.tile_lines32_whole.specs.Prelude.{◌∙◌, w16, side32, of}
use Rattle.tile_spectrum.specs.Lines.Picked.{all-most}
use Rattle.tile_spectrum.specs.Lines.WholeFolds.{differences-most, line-wider}
use Rattle.tile_lines32_whole.proofs.OddParts.{seconds, even-most, odd-most, in_parts, differences-places}
use Rattle.tile_lines32_whole.proofs.odd_places.Goals as goal

pub differences-t-requires : goal.differences-t-requires
differences-t-requires c = (lit< tt, (lit< tt, (refl, line-wider (lit≤ tt) c.requires)))

pub odd-e-requires : goal.odd-e-requires
unfolding side32
odd-e-requires c = line-wider (lit≤ tt) (all-most w16 (differences-most side32 16 c.requires (c.differences-t.ensures side32 refl)) tt (seconds 0))

pub odd_part-o-requires : goal.odd_part-o-requires
unfolding side32
odd_part-o-requires c = all-most w16 (differences-most side32 16 c.requires (c.differences-t.ensures side32 refl)) tt (seconds 1)

pub joined-requires : goal.joined-requires
unfolding side32
joined-requires c =
    let m = differences-most side32 16 c.requires (c.differences-t.ensures side32 refl) in
    (even-most (all-most w16 m tt (seconds 0)) c.odd-e.ensures, odd-most (all-most w16 m tt (seconds 1)) c.odd_part-o.ensures)

pub returns : goal.returns
unfolding side32
returns c =
    let e = c.differences-t.ensures side32 refl in
    c.joined.ensures _ (in_parts (differences-most side32 16 c.requires e) c.odd-e.ensures c.odd_part-o.ensures) ∙ differences-places (of c.args.x.now) e
