-- Inside the crates of the range: P of one end of a pair's tiles, summed over the other frames. `end` is `greatest_at` or `least_at` (range/Range).
use Rattle.std.specs.Prelude.{◌≡◌, ◌*◌, ◌≤◌, ◌<◌}
use Rattle.range_tiles.specs.Prelude.{List, ℕ, ℤ, pos, nat_abs, grid, side16, Merge, Scene, reference_tile, tile_noise, tile_difference, scene_at, greatest_at, least_at, Taking, PairTaken, NoisesFit, noise_of, Noises, at_site, pair_at}
use Rattle.algebra.specs.Sums.{sum_z}
use Rattle.tile_spectrum.specs.Magnitudes.{small_most}
use Rattle.tile_spectrum.specs.Pairs.{side_by_side}
use Rattle.recipe.specs.NoiseNumber.{noise_number}
use Rattle.merge_tiles.specs.declared.Site.{Site}
use Rattle.merge_tiles.specs.Accepted.{Accepted, Sited}
pub use Rattle.range_pair.specs.Added.{EndAt}
use Rattle.range_tiles.specs.declared.Upper.{Upper}

-- P of a tile between two noise numbers, summed over the other frames
unfoldable pub end_sum : EndAt → Scene → (lower upper rowParity columnParity a b i j : ℕ) → ℤ
end_sum end s lower upper rowParity columnParity a b i j =
    sum_z s.others (λ k. end side16 lower upper (tile_difference s rowParity columnParity a b k) i j)

-- those sums of a pair, at its planes' noise numbers
abbrev pub pair_sum : EndAt → Scene → Site → (lower upper : Noises) → ℕ → ℕ → ℤ
pair_sum end s t lower upper = side_by_side (λ p. at_site (end_sum end s (noise_of lower p) (noise_of upper p)) t p)

-- r is these sums, each of at most `small_most` for every other frame
pub record EndSummed (end : EndAt) (s : Scene) (t : Site) (lower upper : Noises) (r : List (List ℤ)) : Type 0 where
  pub is : r ≡ grid 16 32 (pair_sum end s t lower upper)
  pub most : (i l : ℕ) → i < 16 → l < 32 → nat_abs (pair_sum end s t lower upper i l) ≤ s.others * small_most

-- the sums of both ends
pub record EndsSummed (s : Scene) (t : Site) (lower upper : Noises) (greatest least : List (List ℤ)) : Type 0 where
  pub greatests : EndSummed greatest_at s t lower upper greatest
  pub leasts : EndSummed least_at s t lower upper least

-- those sums between the noise numbers that a tile has by two scenes
unfoldable pub end_taken : EndAt → (lower upper : Scene) → Taking
end_taken end lower upper rowParity columnParity a b =
    end_sum end lower (tile_noise lower rowParity columnParity a b) (tile_noise upper rowParity columnParity a b) rowParity columnParity a b

-- what both ends take from a pair
pub record EndsTaken (lower upper : Scene) (t : Site) (greatest least : List (List ℤ)) : Type 0 where
  pub greatests : PairTaken 16 (end_taken greatest_at lower upper) t greatest
  pub leasts : PairTaken 16 (end_taken least_at lower upper) t least

-- the merge at the upper noise
abbrev pub raised : Merge → Upper → Merge
raised m upper = record { shape = m.shape; reference = m.reference; shot = upper.shot; read = upper.read; tuning = m.tuning }

-- whose levels are in range
pub record UpperFits (upper : Upper) : Type 0 where
  pub shot_most : upper.shot ≤ 65536
  pub read_most : upper.read ≤ 4194304

-- R of a burst's scene at the merge's own noise and of its scene at the upper one
abbrev pub at_noises : {A : Type 1} → (R : (lower upper : Scene) → A) → Merge → Upper → List ℕ → List ℤ → A
at_noises R m upper samples vectors = R (scene_at side16 m samples vectors) (scene_at side16 (raised m upper) samples vectors)

-- v is V of two tiles by their r
pub record NoisesAre (strength shot read r₀ r₁ : ℕ) (v : Noises) : Type 0 where
  pub first_is : v.first ≡ noise_number side16 strength shot read r₀
  pub second_is : v.second ≡ noise_number side16 strength shot read r₁
  pub fits : NoisesFit v

-- ---- what is lent

-- both pairs of sums are 0
pub record Cleared (greatest least : List (List ℤ)) : Type 0 where
  pub greatest_is : greatest ≡ grid 16 32 (λ i l. pos 0)
  pub least_is : least ≡ grid 16 32 (λ i l. pos 0)

-- T0 of a pair
abbrev pub tile_pair : Scene → Site → List (List ℕ)
tile_pair s t = pair_at 16 (reference_tile s) t

-- a pair of accepted input, its T0, its planes' noise numbers at both ends, and cleared sums
pub record SumsLent (m : Merge) (samples : List ℕ) (vectors : List ℤ) (t : Site) (t0 : List (List ℕ)) (lower upper : Noises) (greatest least : List (List ℤ)) : Type 0 where
  pub accepted : Accepted 16 m samples vectors
  pub sited : Sited 16 m.shape t
  pub tile : t0 ≡ tile_pair (scene_at side16 m samples vectors) t
  pub lower_fits : NoisesFit lower
  pub upper_fits : NoisesFit upper
  pub cleared : Cleared greatest least

-- a pair of accepted input, the upper noise in range, and cleared sums
pub record PairLent (m : Merge) (upper : Upper) (samples : List ℕ) (vectors : List ℤ) (t : Site) (greatest least : List (List ℤ)) : Type 0 where
  pub accepted : Accepted 16 m samples vectors
  pub upper_fits : UpperFits upper
  pub sited : Sited 16 m.shape t
  pub cleared : Cleared greatest least
