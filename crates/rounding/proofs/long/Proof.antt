-- `rounding::long`: nothing is left of a divisor below 2^60.
use Rattle.std.specs.Prelude.{◌≡◌, ◌/◌, ◌^◌, ◌<◌}
use Rattle.algebra.specs.Prelude.{ap, ◌∙◌, ℕ, arith}
use lib.Bits.{bit_xor, xor_zero_r}
use Rattle.rounding.proofs.long as of

unchanged : (a m : ℕ) → m < 2 ^ 60 → bit_xor a (m / 2 ^ 60) ≡ a
unchanged a m h =
    let e : m / 2 ^ 60 ≡ 0 = omega arith in
    ap (bit_xor a) e ∙ xor_zero_r a

returns : of.Tie.Need-returns
returns c = unchanged c.args.a c.args.m c.requires

pub long_spec : {M : Type 1} → of.Statement.statement M
long_spec = of.Tie.close (of.Tie.spec returns)
