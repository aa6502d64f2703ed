use Rattle.std.proofs.Common.{◌≡◌, map, drop}
use Rattle.refusals.specs.Refused.{answer_of}
use Rattle.refusals.specs.Tests.{first}
use Rattle.refusals.proofs.first.Given as goal

-- the tests that are left say what all of them say
abbrev pub invariant-loop-test : goal.invariant-loop-test
invariant-loop-test l = first (map answer_of (drop l.test-index l.fn.tests)) ≡ first (map answer_of l.fn.tests)
