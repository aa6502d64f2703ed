-- Curves in order, refusal 26, and the tests of two noises in their order.
use Rattle.std.specs.Prelude.{◌||◌, ◌∷◌}
use Rattle.range.specs.Prelude.{Bool, List, [], ℕ, T, lt, le, refuse}
use Rattle.refusals.specs.Numbers as no
use Rattle.noise.specs.declared.Curve.{Curve}
use Rattle.noise.specs.declared.Noise.{Noise}
use Rattle.noise.specs.Curve.{curve_of}
use Rattle.noise.specs.Levels.{invalid_noise, above_limits}

-- "between two curves": neither shot nor read of the first is above that of the second
pub record NoneAbove (c c' : Curve) : Type 0 where
  pub shot : T (le c.shot c'.shot)
  pub read : T (le c.read c'.read)

-- "a lower shot or read above its upper one after ISO"
abbrev pub crossed : (lower upper : Curve) → Bool
crossed lower upper = lt upper.shot lower.shot || lt upper.read lower.read

-- "tested after 9; 8 and 9 read both curves"
unfoldable pub range_noise_tests : (lower upper : Noise) → List ℕ
range_noise_tests lower upper =
    refuse no.noise (invalid_noise lower || invalid_noise upper)
    ∷ refuse no.noise_limit (above_limits (curve_of lower) || above_limits (curve_of upper))
    ∷ refuse no.noise_range (crossed (curve_of lower) (curve_of upper))
    ∷ []
