-- Each arm of the match at its number.
use borrow.Author.Rules.{rules}
use Rattle.admit_length.specs.Question.{length_tested}
use Rattle.admit_length.proofs.question.length_tested as of

returns : of.Tie.Need-returns-in-4
unfolding length_tested
returns c = rw c.before.in-4.is c.sample_length.ensures.0

returns-2 : of.Tie.Need-returns-in-5
unfolding length_tested
returns-2 c = rw c.before.in-5.is c.vector_length.ensures.0

returns-3 : of.Tie.Need-returns-in-6
unfolding length_tested
returns-3 c = rw c.before.in-6.is c.output_length.ensures.0

returns-4 : of.Tie.Need-returns-in-7
unfolding length_tested
returns-4 c = rw c.before.in-7.is c.work_length.ensures.0

returns-5 : of.Tie.Need-returns-in_default
unfolding length_tested
returns-5 c = search rules

pub length_tested_spec : {M : Type 1} → of.Statement.statement M
length_tested_spec = of.Tie.close (of.Tie.spec
    (λ c κs. search rules) (λ c κs. search rules) (λ c κs. search rules) (λ c κs. search rules)
    returns returns-2 returns-3 returns-4 returns-5)
