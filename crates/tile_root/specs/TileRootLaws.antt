-- r's bound, and its monotony in the black level.
use Rattle.std.specs.Prelude.{◌≡◌, ◌+◌, ◌*◌, ◌≤◌, ◌<◌}
use Rattle.tile_root.specs.Prelude.{ap, ℕ, arith, sum_n, whole_root, intensity, squared, sum_of_squares, tile_root}
use Rattle.std.proofs.Common.{mul-le-mul}
use Rattle.algebra.specs.SumLaws.{sum_n-cong, sum_n-mono, sum_n-bound}
use Rattle.tile_root.specs.RootLaws.{root-mono, root-most}

-- r is that of the n by n samples alone
pub tile-root-cong : (n black : ℕ) (s t : ℕ → ℕ → ℕ) → ((i j : ℕ) → i < n → j < n → s i j ≡ t i j) → tile_root n black s ≡ tile_root n black t
unfolding tile_root sum_of_squares
tile-root-cong n black s t h = ap whole_root (sum_n-cong n (λ i. sum_n n (λ j. squared black (s i j))) (λ i. sum_n n (λ j. squared black (t i j))) (λ i k. sum_n-cong n (λ j. squared black (s i j)) (λ j. squared black (t i j)) (λ j l. ap (squared black) (h i j k l))))

-- samples up to m above the black level have r up to n * m: 65520 for side 16, black level 0 and samples up to 4095
pub tile-root-bound : (n black m : ℕ) (tile : ℕ → ℕ → ℕ) → ((i j : ℕ) → i < n → j < n → tile i j ≤ black + m) → tile_root n black tile ≤ n * m
unfolding tile_root sum_of_squares
tile-root-bound n black m tile h = root-most (omega (arith, rows))
  where
    intensity-most : (i j : ℕ) → i < n → j < n → intensity black (tile i j) ≤ m
    intensity-most i j k l = omega (arith, h i j k l)

    rows : sum_n n (λ i. sum_n n (λ j. squared black (tile i j))) ≤ n * (n * (m * m))
    rows = sum_n-bound n (n * (m * m)) (λ i. sum_n n (λ j. squared black (tile i j))) (λ i k. sum_n-bound n (m * m) (λ j. squared black (tile i j)) (λ j l. mul-le-mul (intensity-most i j k l) (intensity-most i j k l)))

-- "r falls": the larger the black level, the smaller r (request L3)
pub tile-root-falls : (n : ℕ) {black higher : ℕ} → black ≤ higher → (tile : ℕ → ℕ → ℕ) → tile_root n higher tile ≤ tile_root n black tile
unfolding tile_root sum_of_squares
tile-root-falls n {black} {higher} h tile =
    root-mono (sum_n-mono n _ _ (λ i k. sum_n-mono n (λ j. squared higher (tile i j)) (λ j. squared black (tile i j)) (λ j l. mul-le-mul (less (tile i j)) (less (tile i j)))))
  where
    less : (sample : ℕ) → intensity higher sample ≤ intensity black sample
    less sample = omega arith
