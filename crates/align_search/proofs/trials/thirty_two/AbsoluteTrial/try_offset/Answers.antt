use Rattle.algebra.specs.Prelude.{refl, ◌∙◌, false, arith, lit<}
use Rattle.std.specs.Prelude.{◌≡◌, ◌+◌, ◌*◌}
use Rattle.align_residual.specs.Local.{square_row}
use Rattle.align_residual.specs.SixteenLaws.{row_at}
use Rattle.align_search.specs.Trials.LeaveLaws.{row-start, row-turn, row-left, row_done}
use Rattle.align_search.proofs.trials.thirty_two.AbsoluteTrial.try_offset.Goals as goal

pub loop-i-init : goal.loop-i-init
loop-i-init c = row-start

pub returns-then-total-limit : goal.returns-then-total-limit
returns-then-total-limit c =
    let a = c.args in
    let l = c.loop-i in
    let is : c.absolute_row.result ≡ square_row false a.tile.now a.window.now (a.y * 40 + a.x) 40 32 l.i = c.absolute_row.ensures.0 ∙ row_at false a.tile.now a.window.now (a.y * 40 + a.x) 40 32 l.i _ _ (omega arith) (omega arith) in
    let e = c.clipped-limit.ensures.same (omega (arith, l.invariant.most, c.absolute_row.ensures.1, c.if-total-limit.true)) in
    row-left l.invariant (omega arith) is (omega (arith, e, c.if-total-limit.true)) c.leave.ensures

pub loop-i-preserved : goal.loop-i-preserved
loop-i-preserved c =
    let a = c.args in
    let is : c.absolute_row.result ≡ square_row false a.tile.now a.window.now (a.y * 40 + a.x) 40 32 c.loop-i.i = c.absolute_row.ensures.0 ∙ row_at false a.tile.now a.window.now (a.y * 40 + a.x) 40 32 c.loop-i.i _ _ (omega arith) (omega arith) in
    row-turn c.loop-i.invariant (omega arith) is c.absolute_row.ensures.1 (omega (arith, c.clipped-limit.ensures.below, c.if-total-limit.false))

pub returns : goal.returns
returns c = row_done c.loop-i.invariant (omega arith) (lit< tt) refl refl
