-- `noise::side_noise_number`: the noise number of either side.
use Rattle.noise.specs.Prelude.{sym, ap, ◌∙◌, arith, rules, noise_number}
use Rattle.recipe.specs.SideLaws.{of_other, of-32}
use Rattle.noise.proofs.side_noise_number as of

returns : of.Tie.Need-returns-then-side-eq32
returns c =
    let a = c.before.before.args in
    (c.long_noise_number.ensures.0 ∙ sym (ap (λ s. noise_number s a.t a.ls a.lr a.r) (of-32 (omega arith))), c.long_noise_number.ensures.1)

returns-2 : of.Tie.Need-returns
returns-2 c =
    let a = c.before.before.args in
    (c.noise_number.ensures.0 ∙ sym (ap (λ s. noise_number s a.t a.ls a.lr a.r) (of_other (λ e. omega (arith, e)))), c.noise_number.ensures.1)

pub side_noise_number_spec : {M : Type 1} → of.Statement.statement M
side_noise_number_spec = of.Tie.close (of.Tie.spec (λ c κs. search rules) returns (λ c κs. search rules) returns-2)
