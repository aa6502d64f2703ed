-- What is known of a size once it is tested. Inner vocabulary: `requires` and laws speak of it, no answer does.
use Rattle.algebra.specs.Prelude.{ℕ}
use Rattle.geometry.specs.Fits.{AllowedSize}

pub record Sized (width height : ℕ) : Type 0 where
  pub wide : AllowedSize width
  pub high : AllowedSize height
