-- What is known of a burst once tests have let it through. Inner vocabulary: `requires` and laws speak of it, no answer does.
use Rattle.std.specs.Prelude.{◌≡◌, ◌<◌}
use Rattle.algebra.specs.Prelude.{ℕ}
use Rattle.geometry.specs.declared.Shape.{Shape}
use Rattle.geometry.specs.Shape.{sample_length}
use Rattle.geometry.specs.Fits.{Allowed}

-- 1, 2, 3, 23 and 4: the samples have room for the frame
pub record FrameFits (s : Shape) (frame room : ℕ) : Type 0 where
  pub allowed : Allowed s
  pub below : frame < s.count
  pub long : room ≡ sample_length s
