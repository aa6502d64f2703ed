-- 8 and 9 by the levels found or refused, then 10, 18, 24, 25 and 11.
use Rattle.std.proofs.Common.{rules, ap, ◌≡◌, ◌∙◌, Err}
use Rattle.refusals.specs.RefusedLaws.{stopped, continued}
use Rattle.noise.specs.Levels.{refusal_of}
use Rattle.noise.specs.LevelLaws.{levels-number}
use Rattle.admit_call.specs.AdmissionLaws.{refused_as, accepted_as}
use Rattle.admit_call.proofs.value_refusal.Goals as goal

pub returns-in_err-levels : goal.returns-in_err-levels
returns-in_err-levels c =
    let r : c.from_residual.result ≡ Err c.in_err-levels.field-0.0 = search rules in
    rw r (refused_as _ _ _ (stopped _ _ _ (ap refusal_of c.in_err-levels.ensures ∙ levels-number _)))

pub returns-in_err-content_refusal : goal.returns-in_err-content_refusal
returns-in_err-content_refusal c =
    let r : c.from_residual-in_err-content_refusal.result ≡ Err c.in_err-content_refusal.field-0.0 = search rules in
    rw r (refused_as _ _ _ (continued _ _ (ap refusal_of c.in_ok-levels.ensures ∙ levels-number _) c.in_err-content_refusal.ensures))

pub returns : goal.returns
returns c = accepted_as c.in_ok-levels.levels _ _ (continued _ _ (ap refusal_of c.in_ok-levels.ensures ∙ levels-number _) c.in_ok-content_refusal.ensures) c.in_ok-levels.ensures
