-- The factors' sum bounds the sum of the products.
use Rattle.std.specs.Prelude.{◌+◌, ◌*◌, ◌≤◌}
use Rattle.algebra.specs.Prelude.{refl, arith}
use Rattle.range_pair.specs.Factors.{bin_width_most}
use Rattle.range_pair.proofs.Tables.{both_most}
use Rattle.range_pair.proofs.widths.weighed as of

most : (s : of.Tie.Start) → s.args.f * s.args.a + s.args.g * s.args.b ≤ bin_width_most
most s = both_most _ _ _ _ s.requires.factors_most s.requires.first_most s.requires.second_most

pub weighed_spec : {M : Type 1} → of.Statement.statement M
weighed_spec = of.Tie.close (of.Tie.spec (λ c. omega (arith, most c)) (λ c. omega (arith, most c)) (λ c. omega (arith, most c)) (λ c. (refl, most c)))
