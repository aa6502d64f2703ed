-- `tile_pair::add_inverse_of`: the sums back down the columns, and then along the rows, give P.
use Rattle.tile_pair.specs.Prelude.{◌∙◌, doubles}
use Rattle.tile_spectrum.specs.ColumnLaws.{paired-grid}
use Rattle.tile_pair.proofs.Passes.{columns_whole, back_is}
use Rattle.tile_pair.proofs.add_inverse_of as of

back-requires : of.Tie.Need-back-requires
unfolding doubles
back-requires c κs = paired-grid _ c.before.requires.whole.is

add-back-requires : of.Tie.Need-add_back-requires
add-back-requires c κs =
    let a = c.before in
    let s = a.before.before in
    record { whole = columns_whole s.args.low a.back.ensures s.requires.whole; sums_most = s.requires.sums_most; paired = s.requires.paired }

returns : of.Tie.Need-returns
returns c w =
    let a = c.before.before in
    let s = a.before.before in
    c.add_back.ensures (columns_whole s.args.low a.back.ensures w) ∙ back_is w.number s.args.sum.now

pub add_inverse_of_spec : {M : Type 1} → of.Statement.statement M
add_inverse_of_spec = of.Tie.close (of.Tie.spec back-requires add-back-requires returns)
