-- A quarter of z is no larger than z.
use Rattle.std.specs.Prelude.{◌≡◌, ◌^◌, ◌≤◌}
use Rattle.range_pair.specs.Prelude.{sym, ap, subst, ◌∙◌, arith, lit<, lit≤, ℤ, pos, negsuc, nat_abs, w64, to_z, of_z, shr_z, AtMost, away}
use native.Mathlib.Nat.{le_trans, div-le_self}
use Rattle.tile_spectrum.specs.Lines.Held.{number_is}
use Rattle.tile_spectrum.specs.RoundingLaws.{away-most}
use Rattle.range_pair.proofs.rounds.quartered as of

quarter-less : (z : ℤ) → nat_abs (shr_z z 4) ≤ nat_abs z
quarter-less (pos a) = div-le_self a 4
quarter-less (negsuc a) = omega (arith, div-le_self a 4)

quarter-most : {z : ℤ} → AtMost (2 ^ 60) z → AtMost (2 ^ 60) (shr_z z 4)
quarter-most {z} m = record { most = le_trans (quarter-less z) m.most }

-- as the code holds it
module _ (s : of.Tie.Start) where
  is : to_z w64 (of_z w64 (shr_z (to_z w64 (of_z w64 s.args.z)) 4)) ≡ shr_z s.args.z 4
  is = ap (λ z. to_z w64 (of_z w64 (shr_z z 4))) (number_is w64 s.requires tt) ∙ number_is w64 (quarter-most s.requires) tt

  quarter : AtMost (2 ^ 60) (to_z w64 (of_z w64 (shr_z (to_z w64 (of_z w64 s.args.z)) 4)))
  quarter = subst (AtMost (2 ^ 60)) (sym is) (quarter-most s.requires)

rounded-most : {z r : ℤ} → AtMost (2 ^ 60) z → r ≡ away z (2 ^ 32) → AtMost (2 ^ 28) r
rounded-most {z} m e = record { most = subst (λ r. nat_abs r ≤ 2 ^ 28) (sym e) (le_trans (away-most z (2 ^ 32) (2 ^ 60) (lit< tt) m.most) (lit≤ tt)) }

round-away-32-requires : of.Tie.Need-round_away_32-requires
round-away-32-requires c κs = omega (arith, (quarter c).most)

most : (c : of.Tie.After-round_away_32) → AtMost (2 ^ 28) c.round_away_32.result
most c = rounded-most (quarter c.before) c.round_away_32.ensures

held : (c : of.Tie.After-round_away_32) → to_z w64 (of_z w64 c.round_away_32.result) ≡ c.round_away_32.result
held c = number_is w64 (most c) tt

returns : of.Tie.Need-returns
returns c =
    (held c ∙ c.round_away_32.ensures ∙ ap (λ z. away z (2 ^ 32)) (is c.before), subst (AtMost (2 ^ 28)) (sym (held c)) (most c))

pub quartered_spec : {M : Type 1} → of.Statement.statement M
quartered_spec = of.Tie.close (of.Tie.spec round-away-32-requires returns)
