-- The square lies within the window.
use Rattle.std.specs.Prelude.{◌+◌, ◌-◌, ◌*◌, ◌≤◌}
use Rattle.align_tile.specs.Prelude.{ℕ, arith, rules, lit≤, TileSide}
use mathlib.Core.Logic.{⊎_elim}
use Rattle.align_residual.specs.SixteenLaws.{low-less}
use Rattle.align_tile.proofs.middle_sum as of

most : {side : ℕ} → TileSide side → side ≤ 32
most sided = ⊎_elim (λ e. rw e (lit≤ tt)) (λ e. rw e (lit≤ tt)) sided.is

within : {side : ℕ} → TileSide side → 4 * (side + 8) + 4 + (side - 1) * (side + 8) + side ≤ (side + 8) * (side + 8)
within sided = ⊎_elim (λ e. rw e (lit≤ tt)) (λ e. rw e (lit≤ tt)) sided.is

square-sum-requires : of.Tie.Need-square_sum-requires
square-sum-requires c κs = let s = c.before.before in
    record { sided = s.requires.0; compared = record { tile_low = s.requires.1.tile_low; window_low = low-less s.requires.1.window_low _ (within s.requires.0) }; close = omega (arith, most s.requires.0) }

pub middle_sum_spec : {M : Type 1} → of.Statement.statement M
middle_sum_spec = of.Tie.close (of.Tie.spec
    (λ c. omega (arith, most c.before.before.requires.0)) (λ c. omega (arith, most c.before.before.requires.0)) (λ c. omega (arith, most c.before.before.requires.0)) (λ c. omega (arith, most c.before.before.requires.0))
    square-sum-requires (λ c. search rules))
