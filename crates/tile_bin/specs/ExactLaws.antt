-- The Wiener step at one bin with quotients in whole numbers: a whole number in double is itself as an i64, and so Q and G are the recipe's.
use Rattle.std.specs.Prelude.{◌≡◌, ◌∷◌, ◌≤◌}
use Rattle.tile_bin.specs.Prelude.{refl, sym, ap, subst, ◌∙◌, [], ℕ, arith, T, ℤ, nat_abs, w64, to_z, of_z, Float, binary64, of_int, to_signed, in_signed, in_float, AtMost, quantized, filtered, gain_most}
use Rattle.floats.specs.Casts.{whole-counted, whole_back}
use Rattle.tile_spectrum.specs.Lines.Doubles.{WholeDouble}
use Rattle.tile_spectrum.specs.Lines.Held.{number_is}
use Rattle.recipe.specs.Side.{Side}
use Rattle.tile_bin.specs.Doubles.{quantized_by, whole_quantized_by, exact_gains_by}
use Rattle.tile_bin.specs.DoubleLaws.{Quanta, quantized-is, quantized-most}

-- as the code holds it
pub held-counted : {z : ℤ} → AtMost gain_most z → T (in_float binary64 (to_z w64 (of_z w64 z)))
held-counted {z} m = subst (λ z. T (in_float binary64 z)) (sym (number_is w64 m tt)) (whole-counted z (omega (arith, m.most)))

module _ {s : Side} {k bins : ℕ} (f : Quanta s k bins) where
  -- a part of Q
  module _ {x : Float} (w : WholeDouble bins x) where
    abbrev part : ℤ
    part = quantized s w.number

    part-back : T (in_signed binary64 63 (of_int binary64 part)) × (to_signed 63 (of_int binary64 part) ≡ part)
    part-back = whole_back part (omega (arith, quantized-most f w.number w.most))

    in-double : quantized_by k x ≡ of_int binary64 part
    in-double = ap (quantized_by k) w.is ∙ quantized-is f w.number w.most

    pub quantized-fits : T (in_signed binary64 63 (quantized_by k x))
    quantized-fits = subst (λ y. T (in_signed binary64 63 y)) (sym in-double) part-back.0

    whole_is : whole_quantized_by k x ≡ part
    unfolding whole_quantized_by
    whole_is = ap (to_signed 63) in-double ∙ part-back.1

    pub whole-most : AtMost gain_most (whole_quantized_by k x)
    whole-most = record { most = subst (λ z. nat_abs z ≤ gain_most) (sym whole_is) (quantized-most f w.number w.most) }

  -- both parts of G
  pub exact-gains-are : (v : ℕ) (a b : ℤ) → nat_abs a ≤ bins → nat_abs b ≤ bins → exact_gains_by k v (of_int binary64 a) (of_int binary64 b) ≡ of_int binary64 (filtered s v a b) ∷ of_int binary64 (filtered s v b a) ∷ []
  unfolding exact_gains_by filtered
  exact-gains-are v a b h i = rw (at a h, at b i)
    where
      at : (a : ℤ) → nat_abs a ≤ bins → whole_quantized_by k (of_int binary64 a) ≡ quantized s a
      at a h = whole_is (record { number = a; most = h; is = refl })
