-- What the call that answers each tile's residual leaves in every lent buffer. Samples and vectors are only read.
use Rattle.std.specs.Prelude.{◌≡◌}
use Rattle.stacker.specs.Prelude.{List, ℕ, ℤ, zeros, Shape, after}
use Rattle.admit_call.specs.Residuals.{residual_refusal}
use Rattle.align_measure.specs.Residuals.{tile_residuals}

pub record ResidualsFound (s : Shape) (reference : ℕ) (samples : List ℕ) (vectors : List ℤ) (residuals residuals' : List ℕ) (work work' : List ℤ) (number : ℕ) : Type 0 where
  pub answer : number ≡ residual_refusal s reference samples vectors residuals work
  pub result : residuals' ≡ after (residual_refusal s reference samples vectors residuals work) residuals (tile_residuals s reference samples vectors)
  pub clean : work' ≡ after (residual_refusal s reference samples vectors residuals work) work (zeros work)
