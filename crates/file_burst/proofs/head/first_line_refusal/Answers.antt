-- The library's test of the names is the definition's.
use Rattle.std.proofs.Common.{rules, ap, ◌∙◌, ◌≡◌, Err}
use Rattle.file_burst.specs.Head.Prelude.{not, refuse}
use Rattle.refusals.specs.Numbers as no
use Rattle.refusals.specs.RefusedLaws.{stopped, continued}
use Rattle.refusals.specs.TestLaws.{lone}
use Rattle.file_burst.specs.Head.Names.{names}
use Rattle.file_burst.specs.Head.Head.{first_line_refusal}
use Rattle.file_burst.proofs.head.Heads.{starts-same}
use Rattle.file_burst.proofs.head.first_line_refusal.Goals as goal

pub returns-in_err-refuse : goal.returns-in_err-refuse
unfolding first_line_refusal
returns-in_err-refuse c =
    let r : c.from_residual.result ≡ Err c.in_err-refuse.field-0.0 = search rules in
    let ended = c.in_err-refuse.ensures ∙ ap (λ b. refuse no.file_end (not b)) c.has_lf.ensures ∙ lone _ in
    rw r (stopped c.in_err-refuse.field-0.0 _ _ ended)

pub returns : goal.returns
unfolding first_line_refusal
returns c =
    let ended = c.in_ok-refuse.ensures ∙ ap (λ b. refuse no.file_end (not b)) c.has_lf.ensures ∙ lone _ in
    let named = c.starts_with-named.ensures.value ∙ starts-same names c.args.file.now in
    continued _ _ ended (c.refuse-2.ensures ∙ ap (λ b. refuse no.first_line (not b)) named ∙ lone _)
