-- `tile_pair::forward_into`: the columns, and then the rows along them, give B.
use Rattle.tile_pair.specs.Prelude.{refl, ◌∙◌, pos, tab, grid, cell}
use Rattle.tile_spectrum.specs.Lines.Tiles.{cells-most}
use Rattle.tile_spectrum.specs.ColumnLaws.{paired-grid}
use Rattle.tile_pair.proofs.Passes.{columns-small, both_ways}
use Rattle.tile_pair.proofs.forward_into as of

forward-requires : of.Tie.Need-forward-requires
unfolding grid tab
forward-requires c κs = (c.before.requires.0, paired-grid (λ k l. pos 0) refl)

rows-requires : of.Tie.Need-rows-requires
rows-requires c κs =
    let a = c.before.before in
    let s = a.before.before in
    (columns-small (cell (pos 0) s.args.d.now) a.forward.ensures (cells-most s.requires.0), s.requires.1)

returns : of.Tie.Need-returns
returns c =
    let a = c.before.before.before in
    let s = a.before.before in
    c.rows.ensures ∙ both_ways (cell (pos 0) s.args.d.now) a.forward.ensures

pub forward_into_spec : {M : Type 1} → of.Statement.statement M
forward_into_spec = of.Tie.close (of.Tie.spec forward-requires rows-requires returns)
