-- Side 32 is the recipe's of that many samples, and the tile of memory is whole.
use Rattle.std.proofs.Common.{refl, subst}
use lib.Ieee.{nan, binary64, of_bits}
use Rattle.sequences.specs.Grid.{grid, grid-of}
use Rattle.sequences.specs.Tab.{tab}
use Rattle.merge_tiles32.specs.Prelude.{scene_at, Stored}
use Rattle.merge_tiles32.specs.Sizes.{side_is}
use Rattle.merge_tiles32.proofs.rows.correction_row.Goals as goal

pub row_by-requires : goal.row_by-requires
unfolding grid tab
row_by-requires c =
    let r = c.requires in
    record { ready = record { is = grid-of nan 32 64 (λ y l. of_bits binary64 0) refl }; accepted = r.accepted; parity = r.parity; row-most = r.row-most; room = r.room }

pub returns : goal.returns
returns c = let a = c.args in subst (λ side. Stored 32 (scene_at side a.burst.merge a.burst.samples.now a.burst.vectors.now) a.parity a.row a.work.now c.row_by.new.work) side_is c.row_by.ensures
