-- `tile_lines::double::odd_of`: the differences of line p.
use Rattle.std.specs.Prelude.{◌+◌, ◌*◌}
use Rattle.tile_lines.specs.Double.Prelude.{arith, rules, tab}
use Rattle.tile_spectrum.specs.Lines.DoubleForms.{from, from_is, picked-line}
use Rattle.tile_lines.proofs.double.odd_of as of

returns : of.Tie.Need-returns
unfolding tab
returns c t most e =
    let p = c.before.before.before.before.before.before.before.before.before.args.p in
    c.odd.ensures (λ n. t (2 * n + p)) (λ n. most (2 * n + p)) (picked-line 16 t e (from 2 p) (λ k. 2 * k + p) (λ k l. from_is 2 p k) (λ k l. omega arith))

pub odd_of_spec : {M : Type 1} → of.Statement.statement M
odd_of_spec = of.Tie.close (of.Tie.spec
    (λ c. search rules) (λ c. search rules) (λ c. search rules) (λ c. search rules)
    (λ c. search rules) (λ c. search rules) (λ c. search rules) (λ c. search rules)
    (λ c. search rules) (λ c. search rules) (λ c. search rules) (λ c. search rules)
    (λ c. search rules) (λ c. search rules) (λ c. search rules) (λ c. search rules)
    (λ c. search rules) (λ c. search rules) (λ c. search rules) (λ c. search rules)
    (λ c. search rules) (λ c. search rules) (λ c. search rules) (λ c κs. search rules) returns)
