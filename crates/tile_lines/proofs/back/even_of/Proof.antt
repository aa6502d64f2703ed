-- `tile_lines::back::even_of`: the even places of row p.
use Rattle.std.specs.Prelude.{◌+◌, ◌*◌}
use Rattle.tile_lines.specs.Back.Prelude.{refl, arith, rules, of_bits, of_int, tab}
use Rattle.tile_spectrum.specs.Lines.DoubleForms.{from, from_is, picked-line}
use Rattle.tile_lines.proofs.back.even_of as of

returns : of.Tie.Need-returns
unfolding tab of_bits of_int
returns c z most e =
    let p = c.before.before.before.before.before.before.before.before.before.args.p in
    c.even.ensures.half refl (λ k. z (4 * k + p)) (λ k. most (4 * k + p)) (picked-line 32 z e (from 4 p) (λ k. 4 * k + p) (λ k l. from_is 4 p k) (λ k l. omega arith))

pub even_of_spec : {M : Type 1} → of.Statement.statement M
even_of_spec = of.Tie.close (of.Tie.spec
    (λ c. search rules) (λ c. search rules) (λ c. search rules) (λ c. search rules)
    (λ c. search rules) (λ c. search rules) (λ c. search rules) (λ c. search rules)
    (λ c. search rules) (λ c. search rules) (λ c. search rules) (λ c. search rules)
    (λ c. search rules) (λ c. search rules) (λ c. search rules) (λ c. search rules)
    (λ c. search rules) (λ c. search rules) (λ c. search rules) (λ c. search rules)
    (λ c. search rules) (λ c. search rules) (λ c. search rules) (λ c κs. search rules) returns)
