-- The coarse levels' vectors stand behind the pyramids, and the finest field is found from them.
use Rattle.algebra.specs.Prelude.{arith}
use Rattle.geometry.specs.TileLaws.{finest-tiles}
use Rattle.align_burst.specs.Sites.{grid_at}
use Rattle.align_burst.specs.LevelLaws.{standing-kept, grid-few, aligned}
use Rattle.align_burst.proofs.frame.align_levels.Goals as goal

pub finest_field-finest-requires : goal.finest_field-finest-requires
unfolding grid_at
finest_field-finest-requires c =
    let r = c.coarse_levels-reach.ensures.reached in
    let p = c.requires.0 in
    record {
      stored = rw c.area_at-area.ensures ((standing-kept p.standing r.kept).stored 0);
      coarse_vectors = r.vectors;
      sided = p.sided;
      few = rw c.grid_at-grid.ensures (grid-few p.allowed p.sided 0);
      room = rw (c.grid_at-grid.ensures, finest-tiles p.sided p.allowed.high, finest-tiles p.sided p.allowed.wide) c.requires.1;
    }

pub overflow_add-result : goal.overflow_add-result
overflow_add-result c = omega (arith, c.coarse_levels-reach.ensures.few, c.finest_field-finest.ensures.few)

pub returns : goal.returns
returns c = aligned c.requires.0 c.coarse_levels-reach.ensures c.area_at-area.ensures c.grid_at-grid.ensures c.requires.1 c.finest_field-finest.ensures
