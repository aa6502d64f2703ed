use Rattle.sharpness.specs.Prelude.{sym, true, false, arith}
use borrow.Author.Tests.{lt-ltb, le-ltb}
use Rattle.sequences.specs.FirstLaws.{first-start, first-turn, first_done}
use Rattle.sharpness.specs.Sharpness.{sharpest}
use Rattle.sharpness.specs.SharpnessLaws.{lone-first}
use Rattle.sharpness.proofs.sharpest.Goals as goal
use Rattle.sharpness.proofs.sharpest.Goals.{then-most-other, else-most-other}

pub returns-then-shape-lt2 : goal.returns-then-shape-lt2
returns-then-shape-lt2 c = (sym (lone-first c.args.shape c.args.samples.now (omega arith)), omega arith)

pub loop-frame-init : goal.loop-frame-init
loop-frame-init c = first-start (omega arith) c.sharpness-most.ensures

pub loop-frame-preserved : goal.loop-frame-preserved
loop-frame-preserved c =
    let l = c.loop-frame in
    let is = c.sharpness-other.ensures in
    elim c.if-most-other.branch [
      | then-most-other w ↦ rw (w.best-is, w.most-is) (first-turn true l.invariant (omega arith) is (lt-ltb _ _ w.if-most-other.true))
      | else-most-other w ↦ rw (w.best-is, w.most-is) (first-turn false l.invariant (omega arith) is (le-ltb _ _ w.if-most-other.false))
    ]

pub returns : goal.returns
unfolding sharpest
returns c = (first_done c.loop-frame.invariant (omega arith), omega (arith, c.loop-frame.invariant.within))
