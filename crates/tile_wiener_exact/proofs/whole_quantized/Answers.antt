use Rattle.tile_wiener_exact.specs.Prelude.{sym, ap, subst, ◌∙◌, T, w64, binary64, in_signed, to_signed, gain_most, whole_quantized_by}
use Rattle.algebra.specs.Bound.{AtMost}
use Rattle.tile_spectrum.specs.Lines.Held.{number_is, number-most}
use Rattle.tile_bin.specs.DoubleLaws.{quanta-at}
use Rattle.tile_bin.specs.ExactLaws.{quantized-fits, whole-most}
use Rattle.tile_wiener_exact.proofs.whole_quantized.Goals as goal

pub float_to_int-result : goal.float_to_int-result
float_to_int-result g c = subst (λ y. T (in_signed binary64 63 y)) (sym c.quantized.ensures) (quantized-fits (quanta-at c.requires.0) c.requires.1)

-- a whole number, which an i64 holds
pub returns : goal.returns
unfolding whole_quantized_by
returns g c =
    let e = ap (to_signed 63) c.quantized.ensures in
    let m = subst (AtMost gain_most) (sym e) (whole-most (quanta-at c.requires.0) c.requires.1) in
    (number_is w64 m tt ∙ e, number-most w64 m tt)
