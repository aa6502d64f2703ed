use Rattle.tile_root.specs.Prelude.{ap, ◌∙◌, arith, lit<, cell}
use Rattle.tile_root.specs.Lanes.{lane_black}
use Rattle.tile_root.specs.TileRootLaws.{tile-root-cong}
use Rattle.tile_root.proofs.Lanes.{root-of-plane}
use Rattle.tile_root.proofs.pair_roots.Goals as goal

-- Each plane's root is that of its places' squares.
pub returns : goal.returns
unfolding lane_black
returns g c =
    let a = c.args in
    let e = c.requires.0.places in
    let black = rw e at c.lane_blacks-black.ensures in
    let sum = rw e at c.lane_squares-sum.ensures.0 in
    record {
      first = c.plane_root-first.ensures.0 ∙ root-of-plane g.row.SIDE a.even a.odd a.tile.now 0 (lit< tt) black sum
          ∙ tile-root-cong g.row.SIDE _ _ _ (λ i j _ _. ap (cell 0 a.tile.now i) (omega arith));
      second = c.plane_root-second.ensures.0 ∙ root-of-plane g.row.SIDE a.even a.odd a.tile.now 1 (lit< tt) black sum;
      first_most = c.plane_root-first.ensures.1;
      second_most = c.plane_root-second.ensures.1;
    }
