-- The levels Ls and Lr of a noise, and refusals 8, 9, 10, 18 and 24.
use Rattle.std.specs.Prelude.{◌||◌, ◌∷◌}
use Rattle.noise.specs.Prelude.{Bool, List, [], ℕ, ltb, get_or, refuse, first}
use Rattle.refusals.specs.Numbers as no
use Rattle.refusals.specs.After.{after}
use Rattle.refusals.specs.Some.{some}
use Rattle.noise.specs.declared.Curve.{Curve}
use Rattle.noise.specs.declared.Noise.{Noise}
use Rattle.noise.specs.declared.Noise.TheVariants.{Measured, Iso}
use Rattle.noise.specs.Curve.{curve_of}
use Rattle.noise.specs.Level.{invalid, exceeds, floor1024}

-- what a noise is answered with: its levels Ls and Lr, or the number of the refusal
pub data Levels : Type 0 where
  Found : (shot read : ℕ) → Levels
  Refused : (number : ℕ) → Levels

-- refusal 8, "shot or read negative or not finite": of the curve as given
unfoldable pub invalid_curve : Curve → Bool
invalid_curve curve = invalid curve.shot || invalid curve.read

-- refusal 8, "ISO not in 25..409600"
unfoldable pub invalid_iso : ℕ → Bool
invalid_iso iso = ltb iso 25 || ltb 409600 iso

unfoldable pub invalid_noise : Noise → Bool
invalid_noise (Measured curve) = invalid_curve curve
invalid_noise (Iso iso base) = invalid_iso iso || invalid_curve base

-- refusal 9, "shot > 64 or read > 4096 after ISO"
unfoldable pub above_limits : Curve → Bool
above_limits curve = exceeds 64 curve.shot || exceeds 4096 curve.read

-- "Ls = floor(1024 shot) and Lr = floor(1024 read)"
abbrev pub curve_levels : Curve → Levels
curve_levels curve = Found (floor1024 curve.shot) (floor1024 curve.read)

-- 8 and 9, "in the order of the numbers"
unfoldable pub noise_tests : Noise → List ℕ
noise_tests noise = refuse no.noise (invalid_noise noise) ∷ refuse no.noise_limit (above_limits (curve_of noise)) ∷ []

-- the answer for a noise: their number, else the levels of its curve
unfoldable pub levels_of : Noise → Levels
levels_of noise = let number = first (noise_tests noise) in after number (Refused number) (curve_levels (curve_of noise))

-- each answer's number, "Acceptance is number 0", and its Ls and Lr, "beside a refusal every other returned field is 0"
abbrev pub refusal_of : Levels → ℕ
refusal_of (Found shot read) = 0
refusal_of (Refused number) = number

abbrev pub shot_level : Levels → ℕ
shot_level (Found shot read) = shot
shot_level (Refused number) = 0

abbrev pub read_level : Levels → ℕ
read_level (Found shot read) = read
read_level (Refused number) = 0

-- refusal 9 "in a file, Ls > 65536 or Lr > 4194304"
unfoldable pub level_refusal : ℕ → ℕ → ℕ
level_refusal ls lr = refuse no.noise_limit (ltb 65536 ls || ltb 4194304 lr)

-- refusal 10, "t > 1024"
unfoldable pub strength_refusal : ℕ → ℕ
strength_refusal t = refuse no.strength (ltb 1024 t)

-- refusal 18, "a black level above 255" (request L3), of the four
unfoldable pub black_refusal : List ℕ → ℕ
black_refusal black = refuse no.black_level (some 4 (λ k. ltb 255 (get_or black k 0)))

-- refusal 24, "s above 256" (request L13)
unfoldable pub spatial_refusal : ℕ → ℕ
spatial_refusal s = refuse no.spatial_strength (ltb 256 s)
