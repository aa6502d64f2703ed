-- A row inside the plane, and one that reaches over an edge.
use Rattle.std.proofs.Common.{◌≡◌, ◌*◌, ◌/◌, ◌%◌, ℕ, sym, ap, ◌∙◌, arith}
use lib.Signed.{le_z_yes}
use Rattle.algebra.specs.Prelude.{subst, T, to_z-of_z}
use Rattle.merge_view.specs.Prelude.{tab}
use Rattle.merge_view.proofs.Places.{row-by-start, inner-by-start}
use Rattle.merge_view.proofs.row_at.Goals as goal

halves : (n : ℕ) (f : ℕ → ℕ) → n % 2 ≡ 0 → tab n f ≡ tab (2 * (n / 2)) f
halves n f even = ap (λ k. tab k f) (omega arith)

pub returns-then-first-width : goal.returns-then-first-width
returns-then-first-width g c =
    let started = rw c.requires.place.first at c.row_start-start.ensures in
    rw (← to_z-of_z c.ranges.y, ← to_z-of_z c.ranges.x)
    (c.inner_pair.ensures ∙ halves _ _ c.requires.even ∙ inner-by-start _ c.args.width started (g.row.LANES / 2) _ (le_z_yes (subst T (sym c.if-x-ge0.true) tt)) (omega arith))

pub returns : goal.returns
returns g c =
    let started = rw c.requires.place.first at c.row_start-start.ensures in
    rw (← to_z-of_z c.ranges.y, ← to_z-of_z c.ranges.x)
    (c.edge_pair.ensures ∙ halves _ _ c.requires.even ∙ row-by-start _ c.args.width started (g.row.LANES / 2) _)
