-- By the definition: the quotient in two steps.
use Rattle.std.specs.Prelude.{◌≡◌, ◌-◌, ◌*◌, ◌^◌, ◌+ℤ◌, ◌-ℤ◌, ◌*ℤ◌}
use Rattle.algebra.specs.Prelude.{sym, ap, ◌∙◌, suc, arith, rules, lit<, pos, nat_abs, w64, to_z, of_z, to_z-of_z}
use Rattle.merge_gather.specs.Prelude.{shr_z, clamp_z, upward, side16}
use Rattle.merge_gather.specs.Gather.{corrected}
use Rattle.merge_gather.proofs.Quotients.{upward-twice}
use Rattle.merge_gather.proofs.corrected as of

held-requires : of.Tie.Need-held-requires
held-requires c κs = let d = c.requires.0 in record { some = d.some; few = d.few; inverse_is = d.inverse_is }

returns : of.Tie.Need-returns
unfolding corrected side16
returns c =
    let s = c in
    let n = s.args.count in
    let e : to_z w64 (of_z w64 c.scaled.result) ≡ c.scaled.result = search rules in
    let whole : 4294967296 * n ≡ 256 * (16777216 * suc (n - 1)) = omega (arith, s.requires.0.some) in
    let z =
    e ∙ c.scaled.ensures
    ∙ ap (λ z. pos s.args.t0 *ℤ pos n +ℤ shr_z (pos n *ℤ pos (2 ^ 31) -ℤ z) (2 ^ 32)) (to_z-of_z s.ranges.sum) in
    c.held.ensures
    ∙ ap (λ z. nat_abs (clamp_z (pos 0) (pos 4095) z)) (ap (λ z. shr_z z n) z ∙ sym (upward-twice (pos s.args.t0) s.args.sum 2147483648 n (lit< tt) (omega (arith, s.requires.0.some))))
    ∙ ap (λ m. nat_abs (clamp_z (pos 0) (pos 4095) (upward (pos s.args.t0 *ℤ pos m -ℤ s.args.sum) m))) whole

pub corrected_spec : {M : Type 1} → of.Statement.statement M
corrected_spec = of.Tie.close (of.Tie.spec (λ c κs. (c.requires.0.few, search rules)) held-requires returns)
