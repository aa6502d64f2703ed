use Rattle.std.proofs.Common.{◌≡◌, drop}
use Rattle.refusals.specs.Tests.{first}
use Rattle.refusals.proofs.numbers.first.Given as goal

-- the tests that are left say what all of them say
abbrev pub invariant-loop-test : goal.invariant-loop-test
invariant-loop-test l = first (drop l.test-index l.fn.tests) ≡ first l.fn.tests
