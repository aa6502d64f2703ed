use Rattle.stacker.specs.Prelude.{refl, sym, ap, ◌∙◌, arith, get_or}
use Rattle.sequences.specs.Tab.{tab}
use Rattle.sequences.specs.TabLaws.{fill_start, fill-turn, fill_done}
use Rattle.sequences.specs.Grid.{tab-of}
use Rattle.stacker.proofs.noise_range.copy.Goals as goal

pub loop-i-init : goal.loop-i-init
loop-i-init c = fill_start refl

pub loop-i-preserved : goal.loop-i-preserved
loop-i-preserved c = fill-turn c.loop-i.invariant (omega arith) refl

pub returns : goal.returns
returns c =
    fill_done c.loop-i.invariant (omega arith) ∙ ap (λ n. tab n (λ k. get_or c.args.frame.now k 0)) c.requires ∙ sym (tab-of 0 c.args.frame.now)
