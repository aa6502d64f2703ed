-- Inside the crates of the merge: pairs of tiles as arrays, which are small, and one that is all 0.
use Rattle.std.specs.Prelude.{◌≡◌, ◌*◌, ◌≤◌}
use Rattle.merge_tiles.specs.Prelude.{ap, ◌∙◌, ℕ, arith, get_or, pos, tab, grid}
use Rattle.std.proofs.Common.{mul-le-mul}
use Rattle.std.proofs.Math.ListN.{replicate}
use Rattle.std.proofs.lemmas.List.{length-replicate, get_or-replicate}
use Rattle.sequences.specs.Grid.{tab-of, tab-ext}
use Rattle.merge_tiles.specs.Asked.{PairSize}
use Rattle.merge_tiles.specs.Places.{side_most}

module _ {lanes n : ℕ} (size : PairSize lanes n) where
  pub lanes-most : lanes ≤ 64
  lanes-most = omega (arith, size.twice, side_most size.sided)

  pub pair-most : n * (lanes * 8) ≤ 16384
  pair-most = mul-le-mul {n₁ = n} {m₁ = lanes * 8} {n₂ = 32} {m₂ = 512} (side_most size.sided) (omega (arith, lanes-most))

replicate-tab : {A : Type 0} (n : ℕ) (z : A) → replicate n z ≡ tab n (λ i. z)
replicate-tab n z = tab-of z (replicate n z) ∙ ap (λ k. tab k (λ i. get_or (replicate n z) i z)) (length-replicate n z) ∙ tab-ext n _ _ (λ i h. get_or-replicate n i z z h)

pub cleared : (lanes n : ℕ) → lanes ≡ 2 * n → replicate n (replicate lanes (pos 0)) ≡ grid n (2 * n) (λ i l. pos 0)
unfolding grid
cleared lanes n twice = ap (λ k. replicate n (replicate k (pos 0))) twice ∙ ap (replicate n) (replicate-tab (2 * n) (pos 0)) ∙ replicate-tab n (tab (2 * n) (λ l. pos 0))
