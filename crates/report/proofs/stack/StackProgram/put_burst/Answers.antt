-- What is printed is the frame that the run left in the output.
use Rattle.std.specs.Prelude.{◌≡◌}
use Rattle.report.specs.Prelude.{sym, ap, ap₂, ◌∙◌, List, ℕ, Header}
use Rattle.report.specs.Program.{program_side}
use Rattle.report.specs.Stack.{frame_text, frame_of, stack_of}
use Rattle.report.specs.Inner.{burst_of, Taken}
use Rattle.report.proofs.stack.StackProgram.put_burst.Goals as goal

merged-text : {header : Header} {samples output : List ℕ} → Taken header samples → output ≡ frame_of (burst_of header samples) → frame_text program_side program_side output ≡ stack_of (burst_of header samples)
unfolding stack_of
merged-text {header} {samples} {output} t e =
    ap (frame_text program_side program_side) e ∙ ap₂ (λ w h. frame_text w h (frame_of (burst_of header samples))) (sym t.wide) (sym t.high)

pub returns : goal.returns
returns c = c.put_merged.ensures ∙ merged-text c.requires.taken c.run_burst.ensures.0
