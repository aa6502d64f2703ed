-- `tile_pair::forward`: the columns, and then the rows along them, give B.
use Rattle.tile_pair.specs.Prelude.{refl, ◌∙◌, pos, binary64, of_bits, tab, grid, cell}
use Rattle.tile_spectrum.specs.Lines.Tiles.{cells-most}
use Rattle.tile_spectrum.specs.ColumnLaws.{paired-grid}
use Rattle.tile_pair.proofs.Passes.{columns-small, both_ways}
use Rattle.tile_pair.proofs.forward as of

forward-requires : of.Tie.Need-forward-requires
unfolding grid tab
forward-requires c κs = (c.before.before.requires, paired-grid (λ k l. pos 0) refl)

rows-requires : of.Tie.Need-rows-requires
unfolding grid tab
rows-requires c κs =
    let a = c.before.before in
    let s = a.before.before.before in
    (columns-small (cell (pos 0) s.args.d) a.forward.ensures (cells-most s.requires), paired-grid (λ k l. of_bits binary64 0) refl)

returns : of.Tie.Need-returns
returns c =
    let a = c.before.before.before in
    let s = a.before.before.before in
    c.rows.ensures ∙ both_ways (cell (pos 0) s.args.d) a.forward.ensures

pub forward_spec : {M : Type 1} → of.Statement.statement M
forward_spec = of.Tie.close (of.Tie.spec forward-requires rows-requires returns)
