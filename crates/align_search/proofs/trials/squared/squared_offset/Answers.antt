use Rattle.std.specs.Prelude.{◌+◌, ◌*◌, ◌≤◌}
use Rattle.align_search.specs.Trials.Prelude.{refl, arith}
use Rattle.align_residual.specs.SixteenLaws.{compared-less}
use Rattle.align_search.specs.Trials.LeaveLaws.{run-start, run-turn, run-left, run-done}
use Rattle.align_search.proofs.trials.SquaredRows.{halves, pair-room, pair_room-seen, left-all, first_is, both_are}
use Rattle.align_search.proofs.trials.squared.squared_offset.Goals as goal

pub loop-i-init : goal.loop-i-init
loop-i-init g c = run-start

pub squared_rows-rows-requires : goal.squared_rows-rows-requires
squared_rows-rows-requires g c =
    let l : 2 * c.loop-i.i + 2 ≤ g.row.SIDE = omega (arith, halves g.row.SIDE c.requires.even, c.loop-i-test.true) in
    (compared-less c.requires.within.compared _ _ (pair-room g.row.SIDE c.args.y c.args.x c.loop-i.i c.requires.within.vertical c.requires.within.sideways l) (pair_room-seen g.row.SIDE c.args.y c.args.x c.loop-i.i c.requires.within.vertical c.requires.within.sideways l), c.requires.most)

pub returns-then-both-low : goal.returns-then-both-low
returns-then-both-low g c =
    let l = c.loop-i in
    let start = c.args.y * (g.row.SIDE + 8) + c.args.x in
    left-all (halves g.row.SIDE c.requires.even)
    (run-left l.invariant c.loop-i-test.true (first_is start l.i c.squared_rows-rows.ensures l.sum) (both_are start l.i c.squared_rows-rows.ensures l.sum) (omega (arith, c.if-both-low.true)) c.leave.ensures)

pub loop-i-preserved : goal.loop-i-preserved
loop-i-preserved g c =
    let r = c.squared_rows-rows.ensures in
    let start = c.args.y * (g.row.SIDE + 8) + c.args.x in
    run-turn c.loop-i.invariant c.loop-i-test.true (first_is start c.loop-i.i r c.loop-i.sum) (both_are start c.loop-i.i r c.loop-i.sum) (omega (arith, r.upper_most, r.lower_most)) (omega (arith, c.if-both-low.false))

pub returns : goal.returns
returns g c =
    let e = halves g.row.SIDE c.requires.even in
    left-all e (run-done c.loop-i.invariant (omega (arith, c.loop-i-test.false)) (omega (arith, e, c.requires.some)) refl (omega (arith, e)))
