-- The bits' fields say what is zero and where the digits are shifted (`told`).
use Rattle.std.specs.Prelude.{◌/◌, ◌%◌, ◌^◌}
use Rattle.algebra.specs.Prelude.{sym, subst, ◌∙◌, not, ℕ, arith, rules, T, leb}
use borrow.Author.Tests.{le-leb}
use lib.Bits.{bit_and}
use lib.Ieee.{Float, nan, inf, fin, is_nan, to_bits, binary64}
use Rattle.noise.specs.Within.{within}
use Rattle.noise.proofs.Fields.{Told, told, joined}
use Rattle.noise.proofs.level.floor_1024 as of

not-nan : (k : ℕ) (x : Float) → T (within k x) → T (not (is_nan x))
unfolding is_nan
not-nan k nan w = w
not-nan k (inf s) w = tt
not-nan k (fin s m e) w = tt

known : (c : of.Tie.Start) → Told c.args.x (leb (2 ^ 63) (to_bits binary64 c.args.x)) (bit_and (to_bits binary64 c.args.x / 2 ^ 52) 2047) (to_bits binary64 c.args.x % 2 ^ 52)
known c = told c.args.x (subst T (sym c.well_formed.0.1) tt) c.requires

returns : of.Tie.Need-returns-then-sign-ne0
returns c = let b = to_bits binary64 c.before.args.x in sym ((known c.before).negative (le-leb (2 ^ 63) b (omega (arith, c.if-sign-ne0.true))))

returns-2 : of.Tie.Need-returns-then-exponent-lt1013
returns-2 c = sym ((known c.before.before).low c.if-exponent-lt1013.true)

returns-3 : of.Tie.Need-returns
returns-3 c = joined (to_bits binary64 c.before.before.args.x) _ ∙ sym ((known c.before.before).high c.if-exponent-lt1013.false)

pub floor_1024_spec : {M : Type 1} → of.Statement.statement M
floor_1024_spec = of.Tie.close (of.Tie.spec
    (λ c. not-nan 4096 c.args.x c.requires) returns returns-2 (λ c. omega (arith, (known c.before.before).top))
    (λ c. search rules) returns-3)
