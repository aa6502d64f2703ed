-- A NaN by 0/0, anything else from its pattern.
use Rattle.std.specs.Prelude.{◌≡◌}
use Rattle.file_dng.specs.Prelude.{refl, sym, subst, ◌∙◌, Bool, true, false, not, rules, T, Float, nan, inf, fin, of_bits, is_nan, binary64, div}
use lib.Ieee.Bits.{nan_bits_is}
use Rattle.file_dng.proofs.curve.double_of as of

only_nan : (x : Float) → is_nan x ≡ true → nan ≡ x
unfolding is_nan
only_nan nan h = refl
only_nan (inf s) h = absurd (subst T (sym h) tt)
only_nan (fin s m e) h = absurd (subst T (sym h) tt)

zero_by_zero : div binary64 (of_bits binary64 0) (of_bits binary64 0) ≡ nan
unfolding div of_bits
zero_by_zero = refl

no_nan : (b : Bool) → b ≡ false → T (not b)
no_nan b h = subst (λ (a : Bool). T (not a)) (sym h) tt

float-from-bits-result : of.Tie.Need-float_from_bits-result
float-from-bits-result c = no_nan _ (sym c.nan_pattern.ensures ∙ c.if-nan_pattern.false)

returns : of.Tie.Need-returns-then-nan_pattern
returns c = zero_by_zero ∙ only_nan _ (sym (nan_bits_is binary64 c.args.bits) ∙ sym c.nan_pattern.ensures ∙ c.if-nan_pattern.true)

pub double_of_spec : {M : Type 1} → of.Statement.statement M
double_of_spec = of.Tie.close (of.Tie.spec
    (λ c κs. search rules) float-from-bits-result returns (λ c. search rules))
