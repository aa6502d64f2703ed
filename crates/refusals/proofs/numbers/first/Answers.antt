use Rattle.std.proofs.Common.{rules, arith, ℕ, suc, zero, refl, sym, drop, get_or, ◌≡◌, ◌∙◌, ◌+◌}
use Rattle.std.proofs.lemmas.List.{at_drop_more}
use Rattle.std.proofs.Math.ListN.{drop_of_length-le}
use Rattle.refusals.specs.Tests.{◌before◌, first}
use Rattle.refusals.proofs.numbers.first.Goals as goal

-- a number that is not 0 comes first
ends : (a b : ℕ) → (a ≡ 0 → ⊥) → a ≡ (a before b)
ends zero b h = absurd (h refl)
ends (suc a) b h = refl

pub returns-then-test-ne0 : goal.returns-then-test-ne0
unfolding first
returns-then-test-ne0 c =
    let tests = c.args.tests.now in
    let i = c.loop-test.test-index in
    ends (get_or tests i 0) (first (drop (i + 1) tests)) c.if-test-ne0.true ∙ sym (at_drop_more first tests i 0 c.loop-test-test.true) ∙ c.loop-test.invariant

pub loop-test-preserved : goal.loop-test-preserved
unfolding first
loop-test-preserved c = search (rules, c.loop-test.invariant, c.if-test-ne0.false, at_drop_more first c.args.tests.now c.loop-test.test-index 0 c.loop-test-test.true)

pub returns : goal.returns
unfolding first
returns c = search (rules, c.loop-test.invariant, drop_of_length-le c.args.tests.now {i = c.loop-test.test-index} (omega arith))
