-- Inner vocabulary: what a pyramid is built from.
use Rattle.std.specs.Prelude.{◌≤◌, ◌<◌}
use Rattle.algebra.specs.Prelude.{List, ℕ}
use Rattle.geometry.specs.declared.Shape.{Shape}
use Rattle.geometry.specs.Read.{sample_at}
use Rattle.geometry.specs.Fits.{Sampled}

-- one of the burst's frames, whose samples are "0..4095"
pub record Frame (shape : Shape) (frame : ℕ) (samples : List ℕ) : Type 0 where
  pub sampled : Sampled shape samples
  pub below : frame < shape.count
  pub most : (row column : ℕ) → row < shape.height → column < shape.width → sample_at shape samples frame row column ≤ 4095
