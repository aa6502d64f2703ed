-- The curve that a noise stands for.
use Rattle.noise.specs.Prelude.{ℕ, pos, Float, binary64, mul, div, of_int}
use Rattle.noise.specs.declared.Curve.{Curve}
use Rattle.noise.specs.declared.Noise.{Noise}
use Rattle.noise.specs.declared.Noise.TheVariants.{Measured, Iso}

-- "α = ISO/100"
abbrev pub alpha : ℕ → Float
alpha iso = div binary64 (of_int binary64 (pos iso)) (of_int binary64 (pos 100))

-- "then shot is α times shot, and read is (α times α) times read, each operation rounded once"
abbrev pub at_iso : ℕ → Curve → Curve
at_iso iso base = record {
  shot = mul binary64 (alpha iso) base.shot;
  read = mul binary64 (mul binary64 (alpha iso) (alpha iso)) base.read;
}

-- "Noise comes either as a curve .., or as an ISO number with the curve for ISO 100"
abbrev pub curve_of : Noise → Curve
curve_of (Measured curve) = curve
curve_of (Iso iso base) = at_iso iso base
