-- Inside the crates of the merge: where the words of a half of a pair stand in a row of pairs, for either side. Word j of row i of half h is word n²·h + (n·i + j).
use Rattle.std.specs.Prelude.{◌≡◌, ◌+◌, ◌*◌, ◌/◌, ◌%◌, ◌≤◌, ◌<◌}
use Rattle.merge_tiles.specs.Prelude.{refl, sym, subst, ℕ, arith, lit≤, TileSide, side_of, side16}
use Rattle.recipe.specs.Tables32.{side32}
use Rattle.recipe.specs.SideLaws.{by-table}
use Rattle.std.proofs.Common.{⊎_elim}

-- what holds of 16 and of 32
pub by_side : {n : ℕ} → TileSide n → (P : ℕ → Type 0) → P 16 → P 32 → P n
by_side t P a b = ⊎_elim (λ e. subst P (sym e) a) (λ e. subst P (sym e) b) t.is

module _ {n : ℕ} (t : TileSide n) where
  pub side_most : n ≤ 32
  side_most = by_side t (λ n. n ≤ 32) (lit≤ tt) (lit≤ tt)

  -- the side that the recipe has for it
  pub side_of-side : (side_of n).side ≡ n
  unfolding side16 side32
  side_of-side = by-table t (λ n s. s.side ≡ n) refl refl

  pub side_of-half : (side_of n).half ≡ n / 2
  unfolding side16 side32
  side_of-half = by-table t (λ n s. s.half ≡ n / 2) refl refl

  pub half_of : (h i j : ℕ) → i < n → j < n → (n * n * h + (n * i + j)) / (n * n) ≡ h
  half_of = by_side t (λ n. (h i j : ℕ) → i < n → j < n → (n * n * h + (n * i + j)) / (n * n) ≡ h) (λ h i j a b. omega arith) (λ h i j a b. omega arith)

  pub row_of : (h i j : ℕ) → i < n → j < n → (n * n * h + (n * i + j)) % (n * n) / n ≡ i
  row_of = by_side t (λ n. (h i j : ℕ) → i < n → j < n → (n * n * h + (n * i + j)) % (n * n) / n ≡ i) (λ h i j a b. omega arith) (λ h i j a b. omega arith)

  pub word-of : (h i j : ℕ) → i < n → j < n → (n * n * h + (n * i + j)) % n ≡ j
  word-of = by_side t (λ n. (h i j : ℕ) → i < n → j < n → (n * n * h + (n * i + j)) % n ≡ j) (λ h i j a b. omega arith) (λ h i j a b. omega arith)

  -- each word is one of those
  pub whole_word : (k : ℕ) → n * n * (k / (n * n)) + (n * (k % (n * n) / n) + k % n) ≡ k
  whole_word = by_side t (λ n. (k : ℕ) → n * n * (k / (n * n)) + (n * (k % (n * n) / n) + k % n) ≡ k) (λ k. omega arith) (λ k. omega arith)

  pub row_in : (k : ℕ) → k % (n * n) / n < n
  row_in = by_side t (λ n. (k : ℕ) → k % (n * n) / n < n) (λ k. omega arith) (λ k. omega arith)

  pub word_in : (k : ℕ) → k % n < n
  word_in = by_side t (λ n. (k : ℕ) → k % n < n) (λ k. omega arith) (λ k. omega arith)

  -- the halves of a frame's width
  pub half-in : (width : ℕ) → width % 64 ≡ 0 → (k : ℕ) → k < 2 * n * width → k / (n * n) < 2 * (width / n)
  half-in = by_side t (λ n. (width : ℕ) → width % 64 ≡ 0 → (k : ℕ) → k < 2 * n * width → k / (n * n) < 2 * (width / n)) (λ width w k h. omega arith) (λ width w k h. omega arith)

  pub place-in : (width : ℕ) → width % 64 ≡ 0 → (h i j : ℕ) → h < 2 * (width / n) → i < n → j < n → n * n * h + (n * i + j) < 2 * n * width
  place-in = by_side t (λ n. (width : ℕ) → width % 64 ≡ 0 → (h i j : ℕ) → h < 2 * (width / n) → i < n → j < n → n * n * h + (n * i + j) < 2 * n * width) (λ width w h i j a b c. omega arith) (λ width w h i j a b c. omega arith)

  -- place n·u + j of a row of a pair is word j of its half u
  pub half-parity : (u j : ℕ) → (n * u + j) % 2 ≡ j % 2
  half-parity = by_side t (λ n. (u j : ℕ) → (n * u + j) % 2 ≡ j % 2) (λ u j. omega arith) (λ u j. omega arith)

  pub half-column : (u j : ℕ) → (n * u + j) / 2 ≡ j / 2 + u * (n / 2)
  half-column = by_side t (λ n. (u j : ℕ) → (n * u + j) / 2 ≡ j / 2 + u * (n / 2)) (λ u j. omega arith) (λ u j. omega arith)

  pub half-below : (u j : ℕ) → u < 2 → j < n → n * u + j < 2 * n
  half-below = by_side t (λ n. (u j : ℕ) → u < 2 → j < n → n * u + j < 2 * n) (λ u j a b. omega arith) (λ u j a b. omega arith)

  -- the pairs of a row lie in its words
  pub pairs-in : (width column : ℕ) → column ≤ width / n → 2 * (n * n) * column ≤ 2 * n * width
  pairs-in = by_side t (λ n. (width column : ℕ) → column ≤ width / n → 2 * (n * n) * column ≤ 2 * n * width) (λ width column h. omega arith) (λ width column h. omega arith)
