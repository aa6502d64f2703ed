use Rattle.std.proofs.Common.{rules, arith, map, Ok}
use Rattle.std.proofs.lemmas.List.{at_drop_more}
use Rattle.std.proofs.Math.ListN.{drop_of_length-le}
use Rattle.refusals.specs.Refused.{answer_of}
use Rattle.refusals.specs.RefusedLaws.{refuses}
use Rattle.refusals.specs.Tests.{first}
use Rattle.refusals.proofs.first.Goals as goal

pub returns-in_err-test : goal.returns-in_err-test
unfolding first
returns-in_err-test c = search (rules, refuses, c.loop-test.invariant, c.in_err-test.was, at_drop_more (λ l. first (map answer_of l)) c.args.tests.now c.loop-test.test-index (Ok tt) c.loop-test-test.true)

pub loop-test-preserved : goal.loop-test-preserved
unfolding first
loop-test-preserved c = search (rules, c.loop-test.invariant, c.in_ok-test.was, at_drop_more (λ l. first (map answer_of l)) c.args.tests.now c.loop-test.test-index (Ok tt) c.loop-test-test.true)

pub returns : goal.returns
unfolding first
returns c = search (rules, c.loop-test.invariant, drop_of_length-le c.args.tests.now {i = c.loop-test.test-index} (omega arith))
