-- A noise number grows with the levels; and the burst with some levels.
use Rattle.std.specs.Prelude.{◌≤◌, ◌≤ℤ◌}
use Rattle.range.specs.Prelude.{List, ℕ, ℤ, pos, nat_abs, Side, Scene, scene_of}
use Rattle.std.proofs.Common.{add-le-add, mul-le-mul_left, mul-le-mul_right}
use Rattle.algebra.specs.Order.{zarith, abs-pn, min-pn}
use Rattle.geometry.specs.declared.Shape.{Shape}
use Rattle.recipe.specs.declared.Tuning.{Tuning}
use Rattle.recipe.specs.NoiseNumber.{variance, noise_number}
use Rattle.range.specs.Monotone.{quotient-rises}

-- V grows with the levels, whatever the side
pub noise-rises : (n : Side) (t r : ℕ) {ls lr ls' lr' : ℕ} → ls ≤ ls' → lr ≤ lr' → noise_number n t ls lr r ≤ noise_number n t ls' lr' r
unfolding noise_number variance
noise-rises n t r h k = quotient-rises _ _ n.noise_divisor (mul-le-mul_left t (add-le-add (mul-le-mul_right r h) (mul-le-mul_left n.side k)))

pub abs-mono : (a b : ℤ) → pos 0 ≤ℤ a → a ≤ℤ b → nat_abs a ≤ nat_abs b
abs-mono a b h k = omega (zarith, abs-pn a, abs-pn b, min-pn a, min-pn b)

module _ (s : Shape) (reference : ℕ) (tuning : Tuning) (samples : List ℕ) (vectors : List ℤ) where
  -- the burst with some levels Ls and Lr
  abbrev pub levelled : (shot read : ℕ) → Scene
  levelled shot read = scene_of (record { shape = s; reference = reference; shot = shot; read = read; tuning = tuning }) samples vectors
