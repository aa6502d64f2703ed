use Rattle.std.proofs.Common.{arith, rules, ◌≡◌}
use Rattle.std.proofs.lemmas.List.{get_or_read_under}
use Rattle.tile_spectrum.specs.Prelude.{sym, ap₂, ◌∙◌, [], cond, eqb, get_or, tab}
use Rattle.sequences.specs.Grid.{grid, cell}
use Rattle.sequences.specs.TabLaws.{fill_start, fill-turn, fill-rest, fill_done}
use Rattle.tile_spectrum.proofs.columns.set_column.Goals as goal

pub loop-k-init : goal.loop-k-init
loop-k-init g c o = fill_start c.told-t

pub loop-k-preserved : goal.loop-k-preserved
unfolding cell
loop-k-preserved g c o =
    let w = c.loop-k.invariant o in
    let e = get_or_read_under c.args.z.now c.loop-k.k g.row.ROWS c.index-z-k.result o c.index-z-k.is (omega arith) (sym c.type_inv.z) in
    let s : c.set_lane.new.row ≡ tab g.row.LANES (λ m. cond (eqb m c.args.l) c.index-z-k.result (get_or (get_or c.loop-k.t c.loop-k.k []) m o)) =
    let f = c.set_lane.ensures o in search rules
    in
    fill-turn w (omega arith) (s ∙ ap₂ (λ v row. tab g.row.LANES (λ m. cond (eqb m c.args.l) v (get_or row m o))) e (fill-rest w (omega arith) []))

pub returns : goal.returns
unfolding grid
returns g c o = fill_done (c.loop-k.invariant o) (omega arith)
