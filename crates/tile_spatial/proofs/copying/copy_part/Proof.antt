-- The dividend is at most N times copy_most, so that the quotient is at most copy_most.
use Rattle.std.specs.Prelude.{◌≡◌, ◌*◌, ◌^◌, ◌≤◌, ◌<◌, ◌-ℤ◌}
use Rattle.tile_spatial.specs.Prelude.{sym, ap, ap₂, subst, ◌∙◌, ℕ, arith, w32, w64, ℤ, pos, nat_abs, SFits, to_z, of_z, away, copy_most}
use mir.ValLaws.{to_z_pos}
use Rattle.algebra.specs.Bound.{AtMost, most_fits}
use Rattle.tile_spectrum.specs.Lines.Held.{number_is, cast_fits, cast_is}
use Rattle.tile_spatial.specs.Filtering.{Frames, SumMost}
use Rattle.tile_spatial.proofs.CopyLaws.{whole-most, dividend-most, quotient-most, held-sum}
use Rattle.tile_spatial.proofs.copying.copy_part as of

module _ {frames t0 : ℕ} {sum : ℤ} (f : Frames frames) (l : t0 ≤ 4095) (m : SumMost frames sum) where
  abbrev z : ℤ
  z = pos (t0 * (256 * frames)) -ℤ sum

  z-most : AtMost (copy_most * 8) z
  z-most = record { most = omega (arith, dividend-most f l m, f.few) }

  abbrev held : ℤ
  held = to_z w64 (t0 * (256 * frames)) -ℤ to_z w64 (of_z w64 sum)

  held-is : held ≡ z
  held-is = ap₂ ◌-ℤ◌ (to_z_pos w64 (t0 * (256 * frames)) (omega (arith, whole-most f l m))) (held-sum f l m)

  pub held_fits : SFits w64 held
  held_fits = subst (SFits w64) (sym held-is) (most_fits w64 z (copy_most * 8) z-most tt)

  pub number : to_z w64 (of_z w64 held) ≡ z
  number = subst (λ h. to_z w64 (of_z w64 h) ≡ z) (sym held-is) (number_is w64 z-most tt)

mul-whole-2 : of.Tie.Need-overflow_mul-whole-2
mul-whole-2 c = omega (arith, whole-most c.requires.frames_fit c.requires.sample c.requires.sum-most)

cast-round-away : of.Tie.Need-overflow_cast-whole-2
cast-round-away c = most_fits w64 _ 8386560 (record { most = whole-most c.requires.frames_fit c.requires.sample c.requires.sum-most }) tt

sub-round-away : of.Tie.Need-overflow_sub-whole
sub-round-away c = held_fits c.requires.frames_fit c.requires.sample c.requires.sum-most

round-away-requires : of.Tie.Need-round_away-requires
round-away-requires c κs =
    let p = c.requires in
    let e = number p.frames_fit p.sample p.sum-most in
    record {
      divisor_some = omega (arith, p.frames_fit.some);
      divisor_below = omega (arith, p.frames_fit.few);
      dividend_below = subst (λ z. nat_abs z < 2 ^ 63) (sym e) (omega (arith, dividend-most p.frames_fit p.sample p.sum-most, p.frames_fit.few));
    }

-- what the code divides
quotient_is : (c : of.Tie.After-round_away) → let a = c.args in c.round_away.result ≡ away (pos (a.t0 * (256 * a.frames)) -ℤ a.sum) a.frames
quotient_is c =
    let p = c.requires in
    c.round_away.ensures ∙ ap (λ z. away z c.args.frames) (number p.frames_fit p.sample p.sum-most)

most : (c : of.Tie.After-round_away) → AtMost copy_most c.round_away.result
most c =
    let p = c.requires in
    subst (AtMost copy_most) (sym (quotient_is c)) (quotient-most p.frames_fit p.sample p.sum-most)

returns : of.Tie.Need-returns
returns c =
    let e = cast_is w64 w32 (most c) tt tt in
    (e ∙ quotient_is c, subst (AtMost copy_most) (sym e) (most c))

pub copy_part_spec : {M : Type 1} → of.Statement.statement M
copy_part_spec = of.Tie.close (of.Tie.spec
    (λ c. omega (arith, c.requires.frames_fit.few)) mul-whole-2 cast-round-away sub-round-away
    round-away-requires (λ c. cast_fits w64 w32 (most c) tt tt) returns)
