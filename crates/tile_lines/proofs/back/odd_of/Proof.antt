-- `tile_lines::back::odd_of`: the odd places of row p.
use Rattle.std.specs.Prelude.{◌+◌, ◌*◌}
use Rattle.tile_lines.specs.Back.Prelude.{arith, rules, tab}
use Rattle.tile_spectrum.specs.Lines.DoubleForms.{picked-line}
use Rattle.tile_lines.proofs.back.odd_of as of

returns : of.Tie.Need-returns
unfolding tab
returns c z most e =
    let p = c.before.before.before.before.before.before.before.before.before.args.p in
    c.odd.ensures (λ k. z (4 * k + 2 + p)) (λ k. most (4 * k + 2 + p)) (picked-line 32 z e (λ k. p + (4 * k + 2)) (λ k. 4 * k + 2 + p) (λ k l. omega arith) (λ k l. omega arith))

pub odd_of_spec : {M : Type 1} → of.Statement.statement M
odd_of_spec = of.Tie.close (of.Tie.spec
    (λ c. search rules) (λ c. search rules) (λ c. search rules) (λ c. search rules)
    (λ c. search rules) (λ c. search rules) (λ c. search rules) (λ c. search rules)
    (λ c. search rules) (λ c. search rules) (λ c. search rules) (λ c. search rules)
    (λ c. search rules) (λ c. search rules) (λ c. search rules) (λ c. search rules)
    (λ c. search rules) (λ c. search rules) (λ c. search rules) (λ c. search rules)
    (λ c. search rules) (λ c. search rules) (λ c. search rules) (λ c. search rules) (λ c κs. search rules) returns)
