-- A burst whose samples pass refusal 11 has such frames.
use Rattle.std.specs.Prelude.{◌<◌}
use Rattle.algebra.specs.Prelude.{List, ℕ}
use Rattle.geometry.specs.declared.Shape.{Shape}
use Rattle.geometry.specs.Fits.{Sampled, SamplesFit}
use Rattle.align_pyramid.specs.Bayer.Frame.{Frame}

pub frame-fits : {shape : Shape} {samples : List ℕ} (frame : ℕ) → Sampled shape samples → SamplesFit shape samples → frame < shape.count → Frame shape frame samples
frame-fits frame s f h = record { sampled = s; below = h; most = λ row column a b. f.most frame row column h a b }
