use Rattle.tile_pair.specs.Prelude.{◌∙◌, pos, cell, two_way, plane_in}
use Rattle.tile_pair.proofs.Corrections.{folded_whole, corrections-are}
use Rattle.tile_pair.proofs.add_corrections.Goals as goal

pub add_inverse-requires : goal.add_inverse-requires
add_inverse-requires c =
    let d = cell (pos 0) c.args.d.now in
    record {
      whole = folded_whole c.args.first c.args.second (λ p. two_way (plane_in d p)) c.both_most-low.result c.both_most-low.ensures c.requires.first_most c.requires.second_most c.gains-g.ensures;
      sums_most = c.requires.sums_most;
      paired = c.requires.paired;
    }

pub returns : goal.returns
returns c =
    let d = cell (pos 0) c.args.d.now in
    c.add_inverse.ensures (folded_whole c.args.first c.args.second (λ p. two_way (plane_in d p)) c.both_most-low.result c.both_most-low.ensures c.requires.first_most c.requires.second_most c.gains-g.ensures)
    ∙ corrections-are c.args.first c.args.second d c.args.sum.now
