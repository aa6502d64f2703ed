-- `tile_pair32::add_inverse`: the sums back down the columns, and then along the rows, give P.
use Rattle.tile_pair32.specs.Prelude.{◌∙◌, long_doubles}
use Rattle.tile_spectrum.specs.ColumnLaws.{long-paired-grid}
use Rattle.tile_pair32.proofs.Passes.{columns_whole, back_is}
use Rattle.tile_pair32.proofs.add_inverse as of

back-requires : of.Tie.Need-back-requires
unfolding long_doubles
back-requires c κs = long-paired-grid _ c.before.requires.whole.is

add-back-requires : of.Tie.Need-add_back-requires
add-back-requires c κs =
    let a = c.before in
    let s = a.before.before in
    record { whole = columns_whole s.args.low s.args.middle a.back.ensures s.requires.whole; sums_most = s.requires.sums_most; paired = s.requires.paired }

returns : of.Tie.Need-returns
unfolding long_doubles
returns c =
    let a = c.before.before in
    let s = a.before.before in
    record {
      spare = long-paired-grid _ (columns_whole s.args.low s.args.middle a.back.ensures s.requires.whole).is;
      is = λ w. c.add_back.ensures (columns_whole s.args.low s.args.middle a.back.ensures w) ∙ back_is w.number s.args.sum.now;
    }

pub add_inverse_spec : {M : Type 1} → of.Statement.statement M
add_inverse_spec = of.Tie.close (of.Tie.spec back-requires add-back-requires returns)
