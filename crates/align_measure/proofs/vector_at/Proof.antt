-- A small part is widened without loss.
use Rattle.std.specs.Prelude.{◌≡◌, ◌+◌, ◌≤◌}
use Rattle.algebra.specs.Prelude.{sym, ap₂, subst, ◌∙◌, List, ℕ, arith, rules, get_or, ℤ, pos, nat_abs, w32, w64, SFits, to_z, of_z, to_z-of_z}
use Rattle.algebra.specs.Bound.{AtMost, most_fits}
use Rattle.geometry.specs.Fits.{VectorsFit}
use Rattle.align_patch.specs.Bounds.{Within}
use Rattle.align_measure.specs.Frames.{vector_in}
use Rattle.align_measure.proofs.vector_at as of

module _ {vectors : List ℤ} (v : VectorsFit vectors) where
  part-most : (k : ℕ) → AtMost 172 (get_or vectors k (pos 0))
  part-most k = record { most = v.most k }

  part-is : (k : ℕ) → to_z w32 (of_z w32 (get_or vectors k (pos 0))) ≡ get_or vectors k (pos 0)
  part-is k = to_z-of_z (most_fits w32 _ 172 (part-most k) tt)

  fits : (k : ℕ) → SFits w64 (to_z w32 (of_z w32 (get_or vectors k (pos 0))))
  fits k = rw (part-is k) (most_fits w64 _ 172 (part-most k) tt)

  widened : (k : ℕ) → to_z w64 (of_z w64 (to_z w32 (of_z w32 (get_or vectors k (pos 0))))) ≡ get_or vectors k (pos 0)
  widened k = to_z-of_z (fits k) ∙ part-is k

  made : (place : ℕ) {down right : ℤ} → down ≡ get_or vectors place (pos 0) → right ≡ get_or vectors (place + 1) (pos 0) → (record { down = down; right = right } ≡ vector_in vectors place) × (Within 336 (record { down = down; right = right }))
  made place d r =
      (ap₂ (λ x y. record { down = x; right = y }) d r, record { vertical = subst (λ z. nat_abs z ≤ 336) (sym d) (omega (arith, v.most place)); sideways = subst (λ z. nat_abs z ≤ 336) (sym r) (omega (arith, v.most (place + 1))) })

cast-down : of.Tie.Need-overflow_cast-down
cast-down c = let s = c.before in fits s.requires.1 s.args.place

cast-right : of.Tie.Need-overflow_cast-right
cast-right c = let s = c.before.before in fits s.requires.1 (s.args.place + 1)

returns : of.Tie.Need-returns
returns c = let s = c.before.before in made s.requires.1 s.args.place (widened s.requires.1 s.args.place) (widened s.requires.1 (s.args.place + 1))

pub vector_at_spec : {M : Type 1} → of.Statement.statement M
vector_at_spec = of.Tie.close (of.Tie.spec
    (λ c. search rules) (λ c. search rules) cast-down (λ c. search rules) (λ c. search rules) (λ c. search rules) cast-right returns)
