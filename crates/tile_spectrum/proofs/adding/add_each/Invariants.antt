use Rattle.std.proofs.Common.{length, ◌≡◌, ℕ, ◌<◌, ◌≤◌, ◌+ℤ◌}
use Rattle.algebra.specs.Prelude.{ℤ, pos}
use Rattle.tile_spectrum.specs.Prelude.{get_or}
use Rattle.sequences.specs.TabLaws.{Filled}
use Rattle.tile_spectrum.proofs.adding.add_each.Given as goal

-- the sums from l on are as they were, and those before have what the calls gave
abbrev pub invariant-loop-l : goal.invariant-loop-l
invariant-loop-l g l =
    ((k : ℕ) → l.l ≤ k → get_or l.sum k (pos 0) ≡ get_or l.fn.sum k (pos 0))
    × ((h : ℕ → ℤ) → ((k : ℕ) (a : g.row.A.Denot) (r : ℤ) → length l.x ≡ g.row.LANES → k < g.row.LANES → goal.F-post g l.f (get_or l.x k a) r → r ≡ h k) → Filled (λ k. get_or l.fn.sum k (pos 0) +ℤ h k) g.row.LANES l.l l.fn.sum l.sum)
