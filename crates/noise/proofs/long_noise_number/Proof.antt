-- Each product is at most that of the bounds.
use Rattle.std.specs.Prelude.{◌+◌, ◌*◌, ◌≤◌}
use Rattle.noise.specs.Prelude.{refl, ℕ, arith, rules, lit≤, w64, side32, variance, noise_number}
use native.Mathlib.Nat.{le_trans, mul-le-mul}
use mir.Val.{Fits}
use Rattle.noise.specs.NoiseNumberLaws.{long-noise-mono}
use Rattle.noise.proofs.long_noise_number as of

product : (c : of.Tie.Start) → c.args.ls * c.args.r ≤ 65536 * 1048560
product c = mul-le-mul c.requires.shot c.requires.root

times : {t x : ℕ} → t ≤ 1024 → x ≤ 65536 * 1048560 + 32 * 4194304 → Fits w64 (t * x)
times h k = omega (arith, mul-le-mul h k)

mul-result-3 : of.Tie.Need-overflow_mul-result-3
mul-result-3 c = times c.requires.strength (omega (arith, product c))

returns : of.Tie.Need-returns
unfolding noise_number variance side32
returns c = (refl, le_trans (long-noise-mono c.requires.strength c.requires.shot c.requires.read c.requires.root) (lit≤ tt))

pub long_noise_number_spec : {M : Type 1} → of.Statement.statement M
long_noise_number_spec = of.Tie.close (of.Tie.spec
    (λ c. omega (arith, product c)) (λ c. search rules) (λ c. omega (arith, product c)) mul-result-3
    returns)
