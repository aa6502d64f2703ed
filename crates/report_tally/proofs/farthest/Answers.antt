-- `report_tally::farthest`: the greatest so far is that of the parts passed.
use Rattle.std.proofs.Common.{◌≡◌, refl, ap, ◌∙◌, length, arith, to_z-of_z}
use Rattle.std.proofs.lemmas.Grind.{common_steps}
use Rattle.report_tally.specs.Tallies.{reach, greatest, farthest}
use Rattle.report_tally.proofs.Counted.{greatest-next}
use Rattle.report_tally.proofs.farthest.Goals as goal

pub loop-part-init : goal.loop-part-init
unfolding greatest
loop-part-init c = refl

pub loop-part-preserved : goal.loop-part-preserved
loop-part-preserved c =
    let k = c.loop-part.part-index in
    let size : c.unsigned_abs.result ≡ reach c.args.vectors.now k = grind (arith, to_z-of_z, c.unsigned_abs.ensures.value) in
    let next = greatest-next k (reach c.args.vectors.now) in
    grind (arith, common_steps)

pub returns : goal.returns
unfolding farthest
returns c =
    let parts = c.args.vectors.now in
    let all : c.loop-part.part-index ≡ length parts = omega arith in
    c.from.ensures ∙ c.loop-part.invariant ∙ ap (λ n. greatest n (reach parts)) all
