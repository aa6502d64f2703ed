-- A sum over bins that is the same at the mirror image: columns 0 to 8 are enough, of which 1 to 7 count twice.
use Rattle.std.specs.Prelude.{◌≡◌, ◌*◌, ◌<◌}
use Rattle.range_pair.specs.Prelude.{sym, ◌∙◌, ℕ, arith, lit<, sum_n, side16, apart, apart_of}
use Rattle.algebra.specs.SumLaws.{sum_n-cong, sum_n-exchange, sum_n-scale}
use Rattle.recipe.specs.TableLaws.{opposite}

-- u and −u may change places in a sum
reflected : (f : ℕ → ℕ) → sum_n 16 (λ u. f (opposite u)) ≡ sum_n 16 f
unfolding sum_n
reflected f = omega arith

columns : (f : ℕ → ℕ) → ((v : ℕ) → v < 16 → f (opposite v) ≡ f v) → sum_n 16 f ≡ sum_n 9 (λ v. apart v 1 2 * f v)
unfolding sum_n apart_of side16
columns f m =
    omega (arith, m 1 (lit< tt), m 2 (lit< tt), m 3 (lit< tt), m 4 (lit< tt), m 5 (lit< tt), m 6 (lit< tt), m 7 (lit< tt))

module _ (f : ℕ → ℕ → ℕ) (m : (u v : ℕ) → u < 16 → v < 16 → f (opposite u) (opposite v) ≡ f u v) where
  column : (v : ℕ) → v < 16 → sum_n 16 (λ u. f u (opposite v)) ≡ sum_n 16 (λ u. f u v)
  column v l = sym (reflected (λ u. f u (opposite v))) ∙ sum_n-cong 16 _ _ (λ u k. m u v k l)

  pub half-columns : sum_n 16 (λ u. sum_n 16 (f u)) ≡ sum_n 16 (λ u. sum_n 9 (λ v. apart v 1 2 * f u v))
  half-columns =
      sum_n-exchange 16 16 f ∙ columns (λ v. sum_n 16 (λ u. f u v)) column
      ∙ sum_n-cong 9 _ _ (λ v l. sym (sum_n-scale 16 (apart v 1 2) (λ u. f u v)))
      ∙ sym (sum_n-exchange 16 9 (λ u v. apart v 1 2 * f u v))
