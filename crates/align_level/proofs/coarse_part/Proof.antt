-- A small product comes back from its bits.
use Rattle.std.specs.Prelude.{◌≤◌, ◌*ℤ◌}
use Rattle.algebra.specs.Prelude.{refl, ℕ, arith, rules, get_or, ℤ, pos, nat_abs, w64, SFits, to_z-of_z}
use mir.ValLaws.{to_z_pos}
use Rattle.algebra.specs.Order.{abs-mul-le}
use Rattle.algebra.specs.Bound.{mul-fits}
use Rattle.algebra.specs.Back.{back-small}
use Rattle.align_level.proofs.coarse_part as of

product-fits : (z : ℤ) (f : ℕ) → nat_abs z ≤ 84 → f ≤ 4 → SFits w64 (z *ℤ pos f)
product-fits z f h k = mul-fits w64 z (pos f) 84 4 (record { most = h }) (record { most = k }) tt

mul-result-2 : of.Tie.Need-overflow_mul-result
mul-result-2 c = let s = c.before in
    let z = get_or s.args.words.now s.args.k (pos 0) in
    rw (back-small z 84 s.requires.small tt, to_z_pos w64 s.args.f (omega arith)) (product-fits z s.args.f s.requires.small s.requires.factor-most)

returns : of.Tie.Need-returns
returns c = let s = c.before in
    let z = get_or s.args.words.now s.args.k (pos 0) in
    rw (back-small z 84 s.requires.small tt, to_z_pos w64 s.args.f (omega arith), to_z-of_z (product-fits z s.args.f s.requires.small s.requires.factor-most))
    (refl, abs-mul-le z (pos s.args.f) s.requires.small s.requires.factor-most)

pub coarse_part_spec : {M : Type 1} → of.Statement.statement M
coarse_part_spec = of.Tie.close (of.Tie.spec
    (λ c. search rules) (λ c. search rules) (λ c. search rules) mul-result-2 returns)
