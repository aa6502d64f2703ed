use Rattle.algebra.specs.Prelude.{refl, lit≤, lit<, pos}
use Rattle.tile_lines32_whole.specs.Prelude.{◌∙◌, side32, halfcomplex_of, of}
use Rattle.std.proofs.Common.{arith, rules}
use Rattle.sequences.specs.TabLaws.{fill_start, fill_done}
use Rattle.tile_lines32_whole.proofs.EvenSums.{sums-places}
use Rattle.tile_spectrum.specs.Lines.WholeFolds.{line-wider, sums_most, placed-turn, placed-long}
use Rattle.tile_lines32_whole.proofs.halfcomplex.Goals as goal

pub sums-s-requires : goal.sums-s-requires
sums-s-requires c = (lit< tt, (lit< tt, (refl, line-wider (lit≤ tt) c.requires)))

pub even_places-e-requires : goal.even_places-e-requires
unfolding side32
even_places-e-requires c = sums_most side32 16 c.requires (c.sums-s.ensures side32 refl)

pub loop-k-init : goal.loop-k-init
loop-k-init c = fill_start refl

pub loop-k-preserved : goal.loop-k-preserved
loop-k-preserved c = placed-turn c.even_places-e.result c.odd_places-o.result 16 c.loop-k.invariant c.loop-k-test.true (search rules) (search rules)

pub returns : goal.returns
unfolding side32
returns c =
    fill_done c.loop-k.invariant (omega arith)
    ∙ placed-long (halfcomplex_of side32 (of c.args.x.now)) (c.even_places-e.ensures ∙ sums-places c.args.x.now (c.sums-s.ensures side32 refl)) c.odd_places-o.ensures
