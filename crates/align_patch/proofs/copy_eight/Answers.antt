use Rattle.std.specs.Prelude.{◌+◌}
use Rattle.std.proofs.Common.{rules}
use Rattle.algebra.specs.Prelude.{ap, ◌∙◌, ℕ, arith, get_or}
use Rattle.sequences.specs.TabLaws.{get_d-tab}
use Rattle.sequences.specs.MadeLaws.{made-tab}
use Rattle.sequences.specs.Write.{write-start, write-turn, write_done}
use Rattle.align_pyramid.specs.Words.{word_at}
use Rattle.align_patch.proofs.copy_eight.Goals as goal

pub loop-j-init : goal.loop-j-init
loop-j-init c = write-start c.requires.1

pub loop-j-preserved : goal.loop-j-preserved
loop-j-preserved c =
    let f : ℕ → ℕ = λ j. word_at c.args.words.now (c.args.from + j) in
    write-turn c.loop-j.invariant (omega arith)
    (ap (λ r. get_or r c.loop-j.j 0) (made-tab c.from_fn-r.ensures.items f (λ i y q h d. search rules)) ∙ get_d-tab f 0 8 c.loop-j.j (omega arith))

pub returns : goal.returns
returns c = write_done c.loop-j.invariant (omega arith)
