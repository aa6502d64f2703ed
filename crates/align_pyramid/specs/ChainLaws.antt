-- How the sizes of halvings shrink and their words add up.
use Rattle.std.specs.Prelude.{◌≡◌, ◌+◌, ◌*◌, ◌/◌, ◌^◌, ◌≤◌, ◌<◌}
use Rattle.align_pyramid.specs.Prelude.{refl, ap, ℕ, zero, suc, arith, Image}
use Rattle.std.proofs.Math.Logic.{⊎_elim}
use Rattle.std.proofs.Common.{mul-le-mul, pow-suc, eq-or-lt_of_le}
use Rattle.std.proofs.Math.Nat.{pow-le-pow_right}
use Rattle.align_pyramid.specs.Halving.HalvingLaws.{halved-agree}
use Rattle.align_pyramid.specs.Chain.{halves, words_before, chain}

-- a size stays at most the first, and above 0 down to the last image
pub size_most : (size k : ℕ) → halves size k ≤ size
unfolding halves
size_most size zero = omega arith
size_most size (suc k) = omega (arith, size_most size k)

size-least : (size k m : ℕ) → m * 2 ^ k ≤ size → m ≤ halves size k
unfolding halves
size-least size zero m h = omega arith
size-least size (suc k) m h = omega (arith, size-least size k (m * 2) (omega (arith, h, ap (λ p. m * p) (pow-suc 2 k))))

pub size-some : (size k : ℕ) → 32 ≤ size → k ≤ 5 → 0 < halves size k
size-some size k h l = size-least size k 1 (omega (arith, pow-le-pow_right {n = 2} (omega arith) {i = k} {j = 5} l))

-- the images of a chain depend on the values inside image 0 alone
pub chain-agree : (height width : ℕ) (f g : Image) → 32 ≤ height → 32 ≤ width → ((row column : ℕ) → row < height → column < width → f row column ≡ g row column)
    → (k : ℕ) → k ≤ 5 → (row column : ℕ) → row < halves height k → column < halves width k → chain height width f k row column ≡ chain height width g k row column
unfolding chain halves
chain-agree height width f g high wide e zero h = e
chain-agree height width f g high wide e (suc k) h =
    λ row column a b. halved-agree _ _ (size-some height k high (omega arith)) (size-some width k wide (omega arith)) _ _ (chain-agree height width f g high wide e k (omega arith)) row column

-- half of each side
pub quarter : (h w : ℕ) → 4 * (h / 2 * (w / 2)) ≤ h * w
quarter h w = omega (arith, mul-le-mul {n₁ = 2 * (h / 2)} {m₁ = 2 * (w / 2)} {n₂ = h} {m₂ = w} (omega arith) (omega arith))

module _ (height width : ℕ) where
  pub words-next : (k : ℕ) → words_before height width (suc k) ≡ words_before height width k + halves height k * halves width k
  unfolding words_before
  words-next k = refl

  pub words-first : words_before height width 1 ≡ height * width
  unfolding words_before halves
  words-first = omega arith

  pub words-rise : (j k : ℕ) → j ≤ k → words_before height width j ≤ words_before height width k
  unfolding words_before
  words-rise zero k h = omega arith
  words-rise (suc j) zero h = omega arith
  words-rise (suc j) (suc k) h =
      ⊎_elim (λ (e : suc j ≡ suc k). omega (arith, ap (words_before height width) e)) (λ (l : suc j < suc k). omega (arith, words-rise (suc j) k (omega arith))) (eq-or-lt_of_le h)

  pub words-end : (k : ℕ) → k ≤ 5 → words_before height width k + halves height k * halves width k ≤ words_before height width 6
  words-end k h = omega (arith, words-next k, words-rise (suc k) 6 (omega arith))

  -- each image has at most a quarter of the words of the one before
  words-quarter : (k : ℕ) → 4 * (halves height (suc k) * halves width (suc k)) ≤ halves height k * halves width k
  unfolding halves
  words-quarter k = quarter (halves height k) (halves width k)

  pub words-third : 3 * words_before height width 6 ≤ 4 * (height * width)
  unfolding words_before halves
  words-third = omega (arith, words-quarter 0, words-quarter 1, words-quarter 2, words-quarter 3, words-quarter 4)
