use Rattle.tile_pair32.specs.Prelude.{◌∙◌, pos, cell, side32, two_way_of, plane_in}
use Rattle.tile_pair32.proofs.Corrections.{folded_whole, corrections-are}
use Rattle.tile_pair32.proofs.add_corrections.Goals as goal

pub add_inverse-requires : goal.add_inverse-requires
add_inverse-requires c =
    let d = cell (pos 0) c.args.d.now in
    record {
      whole = folded_whole c.args.first c.args.second (λ p. two_way_of side32 (plane_in d p)) c.both_most-low.result c.both_most-middle.result c.both_most-low.ensures c.both_most-middle.ensures c.requires.first_most c.requires.second_most c.gains.ensures;
      sums_most = c.requires.sums_most;
      paired = c.requires.paired;
    }

pub returns : goal.returns
returns c =
    let d = cell (pos 0) c.args.d.now in
    record {
      spare = c.add_inverse.ensures.spare;
      is =
          c.add_inverse.ensures.is (folded_whole c.args.first c.args.second (λ p. two_way_of side32 (plane_in d p)) c.both_most-low.result c.both_most-middle.result c.both_most-low.ensures c.both_most-middle.ensures c.requires.first_most c.requires.second_most c.gains.ensures)
          ∙ corrections-are c.args.first c.args.second d c.args.sum.now;
    }
