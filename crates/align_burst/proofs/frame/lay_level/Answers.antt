-- The level's images and grid are those of the layout.
use Rattle.align_burst.specs.Prelude.{Ends}
use Rattle.algebra.specs.Prelude.{sym, ap, subst}
use Rattle.align_burst.specs.Sites.{grid_at}
use Rattle.align_burst.specs.LevelLaws.{level-ready}
use Rattle.align_burst.proofs.frame.lay_level.Goals as goal

pub level_field-rows-requires : goal.level_field-rows-requires
unfolding grid_at
level_field-rows-requires c =
    let e = c.grid_at-grid.ensures in
    record {
      fits = level-ready c.args.level c.args.at c.requires.site c.area_at-area.ensures e;
      led = c.requires.led;
      ends = subst (Ends c.args.level c.args.coarse) (sym (ap (λ g. g.at) e)) c.requires.ends;
      sided = c.requires.site.sided;
    }

pub returns : goal.returns
unfolding grid_at
returns c =
    let e = c.grid_at-grid.ensures in
    record { grid_is = e; laid = rw (c.area_at-area.ensures, ap (λ g. g.at) e) at c.level_field-rows.ensures }
