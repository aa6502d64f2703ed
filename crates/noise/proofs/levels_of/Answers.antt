-- A refusal's number, or the two floors, whose arguments are in range by `accepted-within`.
use Rattle.std.proofs.Common.{rules, refl, sym, ap, subst, ◌∙◌, T, ◌≡◌, Err}
use Rattle.algebra.specs.Prelude.{lit≤, arith}
use Rattle.refusals.specs.AfterLaws.{kept, made}
use Rattle.refusals.specs.RefusedLaws.{some-number}
use Rattle.noise.specs.declared.Curve.{Curve}
use Rattle.noise.specs.declared.Noise.{Noise}
use Rattle.noise.specs.Curve.{curve_of}
use Rattle.refusals.specs.Tests.{first}
use Rattle.noise.specs.Within.{within}
use Rattle.noise.specs.Levels.{Refused, levels_of, noise_tests}
use Rattle.noise.specs.LevelLaws.{accepted-within, within_more}
use Rattle.noise.proofs.levels_of.Goals as goal

pub returns-in_err-noise_refusal : goal.returns-in_err-noise_refusal
unfolding levels_of
returns-in_err-noise_refusal c =
    let r : c.from_residual.result ≡ Err c.in_err-noise_refusal.field-0.0 = search rules in
    let some = some-number c.in_err-noise_refusal.field-0.0 in
    rw r (ap Refused c.in_err-noise_refusal.ensures ∙ kept _ _ _ c.in_err-noise_refusal.ensures (λ z. absurd (omega (arith, z, some))))

accepted : (noise : Noise) {curve : Curve} → curve ≡ curve_of noise → 0 ≡ first (noise_tests noise) → T (within 64 curve.shot) × T (within 4096 curve.read)
accepted noise e passed = subst (λ (curve : Curve). T (within 64 curve.shot) × T (within 4096 curve.read)) (sym e) (accepted-within noise (sym passed))

pub floor_1024-shot-requires : goal.floor_1024-shot-requires
floor_1024-shot-requires c = within_more 64 4096 c.curve_of-curve.result.shot (lit≤ tt) (accepted _ c.curve_of-curve.ensures c.in_ok-noise_refusal.ensures).0

pub floor_1024-read-requires : goal.floor_1024-read-requires
floor_1024-read-requires c = (accepted _ c.curve_of-curve.ensures c.in_ok-noise_refusal.ensures).1

pub returns : goal.returns
unfolding levels_of
returns c =
    made _ _ _ c.in_ok-noise_refusal.ensures refl
    (rw (sym c.curve_of-curve.ensures, c.floor_1024-shot.ensures, c.floor_1024-read.ensures))
