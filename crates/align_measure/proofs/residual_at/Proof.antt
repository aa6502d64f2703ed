-- The tile's samples are copied, and the sum is that of the candidate.
use Rattle.std.specs.Prelude.{◌*◌, ◌≤◌}
use Rattle.align_measure.specs.Prelude.{ℕ, arith, rules, lit≤, TileSide}
use mathlib.Core.Logic.{⊎_elim}
use Rattle.align_tile.specs.StoredLaws.{copyable, ready}
use Rattle.align_measure.proofs.residual_at as of

square : {side : ℕ} → TileSide side → side * side ≤ 1024
square sided = ⊎_elim (λ e. rw e (lit≤ tt)) (λ e. rw e (lit≤ tt)) sided.is

copy-square-requires : of.Tie.Need-copy_square-requires
copy-square-requires c κs = let s = c.before.before.before in copyable s.requires.stored s.requires.placed (omega (arith, square s.requires.sided))

candidate-sum-requires : of.Tie.Need-candidate_sum-requires
candidate-sum-requires c κs = let s = c.before.before.before.before.before.before.before in
    record {
      ready = ready s.requires.stored s.requires.placed (omega (arith, square s.requires.sided)) (omega arith) c.copy_square.ensures;
      sided = s.requires.sided;
      room = omega (arith, square s.requires.sided);
      near = s.requires.near;
    }

pub residual_at_spec : {M : Type 1} → of.Statement.statement M
residual_at_spec = of.Tie.close (of.Tie.spec
    (λ c. search rules) copy-square-requires (λ c. search rules) (λ c. search rules) candidate-sum-requires (λ c. search rules))
