-- Side 16 is the recipe's of that many samples.
use Rattle.std.proofs.Common.{subst}
use Rattle.merge_tiles.specs.Prelude.{scene_at}
use Rattle.merge_tiles.specs.Rows.{Stored}
use Rattle.merge_tiles.specs.Sixteen.{side_is}
use Rattle.merge_tiles.proofs.rows.correction_row.Goals as goal

pub returns : goal.returns
returns c = let a = c.args in subst (λ side. Stored 16 (scene_at side a.burst.merge a.burst.samples.now a.burst.vectors.now) a.parity a.row a.work.now c.row_by.new.work) side_is c.row_by.ensures
