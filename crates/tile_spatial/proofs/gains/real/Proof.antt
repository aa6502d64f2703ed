-- The definition's own test.
use Rattle.std.specs.Prelude.{◌-◌}
use Rattle.tile_spatial.specs.Prelude.{arith, rules, w64, cell, side16, real_part}
use borrow.Author.Tests.{lt-ltb, le-ltb}
use Rattle.tile_spectrum.specs.Lines.Held.{held-is, held-most}
use Rattle.tile_spatial.proofs.gains.real as of

-- The definition's own test.

returns : of.Tie.Need-returns-then-u-lt9
unfolding real_part cell side16
returns c =
    let s = c in
    let u = s.args.u in
    let m = s.requires.places_most.line u in
    rw (lt-ltb u 9 (omega arith)) (held-is w64 m s.args.l tt, held-most w64 m s.args.l tt)

returns-2 : of.Tie.Need-returns
unfolding real_part cell side16
returns-2 c =
    let s = c in
    let u = s.args.u in
    let m = s.requires.places_most.line (16 - u) in
    rw (le-ltb u 9 (omega arith)) (held-is w64 m s.args.l tt, held-most w64 m s.args.l tt)

pub real_spec : {M : Type 1} → of.Statement.statement M
real_spec = of.Tie.close (of.Tie.spec
    (λ c. search rules) (λ c. search rules) (λ c. search rules) (λ c. search rules) returns
    (λ c. search rules) (λ c. search rules) (λ c. search rules) (λ c. search rules)
    (λ c. search rules) returns-2)
