-- By the levels that `levels_of` found or refused, whose bounds are laws.
use Rattle.std.proofs.Common.{◌≤◌, sym, ap, subst, ◌∙◌, arith}
use Rattle.noise.specs.declared.Noise.TheVariants.{Measured}
use Rattle.noise.specs.Levels.{shot_level, read_level}
use Rattle.noise.specs.LevelLaws.{shot-level-bound, read-level-bound, strength_most}
use Rattle.station.specs.Station.{noise_answer, noise_question}
use Rattle.station.proofs.Answers.{refused, too-strong, other-side, too-bright, numbered, side-most, test-refused, test-passed}
use Rattle.station.proofs.station_noise.Goals as goal

pub returns-in_default : goal.returns-in_default
unfolding noise_question
returns-in_default c = let a = c.args in refused _ _ _ _ ∙ ap (λ l. noise_answer l a.strength a.root a.side) c.in_default.ensures

pub returns-then-is_err : goal.returns-then-is_err
unfolding noise_question
returns-then-is_err c =
    let a = c.args in
    too-strong _ _ _ _ _ (test-refused _ c.strength_refusal.ensures (sym c.is_err.ensures.value ∙ c.if-is_err.true))
    ∙ ap (λ l. noise_answer l a.strength a.root a.side) c.in-Ok.ensures

pub returns-then-not-side_allowed : goal.returns-then-not-side_allowed
unfolding noise_question
returns-then-not-side_allowed c =
    let a = c.args in
    let passed = test-passed _ c.strength_refusal.ensures (sym c.is_err.ensures.value ∙ c.if-is_err.false) in
    other-side _ _ _ _ _ passed (sym c.side_allowed.ensures ∙ c.if-not-side_allowed.true) ∙ ap (λ l. noise_answer l a.strength a.root a.side) c.in-Ok.ensures

pub overflow_mul-side : goal.overflow_mul-side
overflow_mul-side c = omega (arith, side-most c.args.side (sym c.side_allowed.ensures ∙ c.if-not-side_allowed.false))

pub returns-then-side-root : goal.returns-then-side-root
unfolding noise_question
returns-then-side-root c =
    let a = c.args in
    let passed = test-passed _ c.strength_refusal.ensures (sym c.is_err.ensures.value ∙ c.if-is_err.false) in
    too-bright _ _ _ _ _ passed (sym c.side_allowed.ensures ∙ c.if-not-side_allowed.false) c.if-side-root.true
    ∙ ap (λ l. noise_answer l a.strength a.root a.side) c.in-Ok.ensures

pub side_noise_number-requires : goal.side_noise_number-requires
side_noise_number-requires c =
    let a = c.args in
    let curve = Measured (record { shot = a.shot; read = a.read }) in
    let passed = test-passed _ c.strength_refusal.ensures (sym c.is_err.ensures.value ∙ c.if-is_err.false) in
    record {
      strength = strength_most _ passed;
      shot = subst (λ l. shot_level l ≤ 65536) (sym c.in-Ok.ensures) (shot-level-bound curve);
      read = subst (λ l. read_level l ≤ 4194304) (sym c.in-Ok.ensures) (read-level-bound curve);
      root = omega (arith, c.if-side-root.false, side-most a.side (sym c.side_allowed.ensures ∙ c.if-not-side_allowed.false));
    }

pub returns : goal.returns
unfolding noise_question
returns c =
    let a = c.args in
    let passed = test-passed _ c.strength_refusal.ensures (sym c.is_err.ensures.value ∙ c.if-is_err.false) in
    c.side_noise_number.ensures.0
    ∙ numbered _ _ _ _ _ passed (sym c.side_allowed.ensures ∙ c.if-not-side_allowed.false) c.if-side-root.false
    ∙ ap (λ l. noise_answer l a.strength a.root a.side) c.in-Ok.ensures
