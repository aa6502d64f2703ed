-- A burst's side, and what goes with it.
use Rattle.std.specs.Prelude.{◌≡◌}
use Rattle.algebra.specs.Prelude.{sym, subst, ℕ, arith}
use Rattle.std.proofs.Common.{⊎_elim, eq-eqb, ne_eqb}
use Rattle.geometry.specs.Fits.{TileSide}
use Rattle.recipe.specs.Side.{Side}
use Rattle.recipe.specs.Tables.{side16}
use Rattle.recipe.specs.Tables32.{side32}
use Rattle.recipe.specs.Sides.{side_of}

module _ {n : ℕ} where
  pub of_other : (n ≡ 32 → ⊥) → side_of n ≡ side16
  unfolding side_of
  of_other h = rw (ne_eqb n 32 h)

  pub of_16 : n ≡ 16 → side_of n ≡ side16
  of_16 e = of_other (λ f. omega (arith, e, f))

  pub of-32 : n ≡ 32 → side_of n ≡ side32
  unfolding side_of
  of-32 h = rw (eq-eqb n 32 h)

-- what holds of both sides
pub by-table : {n : ℕ} → TileSide n → (P : ℕ → Side → Type 0) → P 16 side16 → P 32 side32 → P n (side_of n)
by-table {n} t P a b = ⊎_elim (λ e. there e (of_16 e) a) (λ e. there e (of-32 e) b) t.is
  where
    there : {m : ℕ} {s : Side} → n ≡ m → side_of n ≡ s → P m s → P n (side_of n)
    there {m} {s} e f p = subst (P n) (sym f) (subst (λ k. P k s) (sym e) p)
