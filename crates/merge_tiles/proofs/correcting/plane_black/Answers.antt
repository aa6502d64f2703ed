use Rattle.std.proofs.Common.{rules}
use Rattle.merge_tiles.specs.Prelude.{black_of}
use Rattle.merge_tiles.proofs.correcting.plane_black.Goals as goal

pub returns : goal.returns
unfolding black_of
returns c = search rules
