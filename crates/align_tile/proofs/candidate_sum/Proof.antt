-- The other image's square at the moved tile is copied, and the sum of the two arrays is the residual.
use Rattle.std.specs.Prelude.{◌+◌, ◌-◌, ◌*◌, ◌^◌, ◌≤◌}
use Rattle.align_tile.specs.Prelude.{refl, ap, ◌∙◌, false, ℕ, arith, rules, lit≤, TileSide}
use mathlib.Core.Logic.{⊎_elim}
use Rattle.align_residual.specs.SixteenLaws.{low-less}
use Rattle.align_search.specs.VectorLaws.{within_more, plus-within}
use Rattle.align_tile.specs.Stored.{pair_in}
use Rattle.align_search.specs.LocalLaws.{moved-residual}
use Rattle.align_tile.specs.StoredLaws.{copied-low}
use Rattle.align_tile.proofs.candidate_sum as of

whole : {side : ℕ} → TileSide side → 0 + (side - 1) * side + side ≤ side * side
whole sided = ⊎_elim (λ e. rw e (lit≤ tt)) (λ e. rw e (lit≤ tt)) sided.is

sum-requires : of.Tie.Need-sum-requires
sum-requires c κs = let s = c.before.before.before.before in (within_more (2 ^ 20) s.requires.ready.placed.near (lit≤ tt), within_more (2 ^ 20) s.requires.near (lit≤ tt))

copy-square-requires : of.Tie.Need-copy_square-requires
copy-square-requires c κs = let s = c.before.before.before.before.before.before in
    let h = s.requires.ready in
    record { source = h.stored.other; near = rw c.before.sum.ensures (within_more (2 ^ 20) (plus-within h.placed.near s.requires.near) (lit≤ tt)); small = omega (arith, h.placed.small); eights = h.placed.eights; room = s.requires.room }

square-sum-requires : of.Tie.Need-square_sum-requires
unfolding pair_in
square-sum-requires c κs = let s = c.before.before.before.before.before.before.before.before.before in
    let h = s.requires.ready in
    record {
      sided = s.requires.sided;
      compared = record { tile_low = copied-low h.stored.reference h.room h.copied; window_low = low-less (copied-low h.stored.other (omega (arith, s.requires.room)) c.before.before.copy_square.ensures) _ (whole s.requires.sided) };
      close = omega (arith, h.placed.small);
    }

returns : of.Tie.Need-returns
unfolding pair_in
returns c = let s = c.before.before.before.before.before.before.before.before.before.before in
    let a = s.args in
    let e = c.before.before.before.before.before.sum.ensures in
    c.square_sum.ensures
    ∙ moved-residual false (pair_in a.words.now a.area) a.tile a.v _ _ _ _ a.tile.side refl s.requires.ready.copied c.before.before.before.copy_square.ensures (ap (λ v. v.down) e) (ap (λ v. v.right) e)

pub candidate_sum_spec : {M : Type 1} → of.Statement.statement M
candidate_sum_spec = of.Tie.close (of.Tie.spec sum-requires copy-square-requires square-sum-requires (λ c. search rules) returns)
