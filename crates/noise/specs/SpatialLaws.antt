-- V' at its bounds, and as the code works it out.
use Rattle.std.specs.Prelude.{◌≡◌, ◌+◌, ◌-◌, ◌*◌, ◌/◌, ◌≤◌, ◌<◌}
use Rattle.algebra.specs.Prelude.{refl, sym, ap, ap₂, subst, ◌∙◌, Bool, true, false, cond, ℕ, arith, lit≤, lit<, leb, ltb}
use Rattle.std.proofs.Common.{le-ltb, ltb-true, ltb-false, le_trans, mul-le-mul, mul-le-mul_left, mul_comm, mul_assoc, le-div_iff_mul-le, div-mul-le_self}
use Rattle.noise.specs.Prelude.{leb→le, side16, variance, frequency, distance, spatial_number}
use Rattle.std.proofs.Math.Nat.{add-le-add}
use Rattle.algebra.specs.Test.{all, all_sound}
use Rattle.recipe.specs.Root.{root_in, whole_root}
use Rattle.noise.specs.SpatialRange.{SpatialRange, scale_most}

-- an index counts as 8 at most
pub frequency-most : (u : ℕ) → frequency u < 9
unfolding frequency
frequency-most u = go (ltb 8 u) (ltb-true 8 u) (ltb-false 8 u)
  where
    go : (c : Bool) → (c ≡ true → 8 < u) → (c ≡ false → u ≤ 8) → cond c (16 - u) u < 9
    go true p q = let h = p refl in omega arith
    go false p q = let h = q refl in omega arith

-- and as itself up to 8
pub frequency-low : (u : ℕ) → u < 9 → frequency u ≡ u
unfolding frequency
frequency-low u h = rw (le-ltb 8 u (omega arith))

-- m is at most 181
abbrev within : ℕ → ℕ → Bool
within a b = leb (whole_root (256 * (a * a + b * b))) 181

roots-most : (a b : ℕ) → a < 9 → b < 9 → whole_root (256 * (a * a + b * b)) ≤ 181
unfolding whole_root root_in
roots-most a b h k = leb→le (whole_root (256 * (a * a + b * b))) 181 (all_sound 9 (within a) (all_sound 9 (λ a. all 9 (within a)) tt a h) b k)

pub distance_most : (u v : ℕ) → distance u v ≤ 181
unfolding distance
distance_most u v = roots-most (frequency u) (frequency v) (frequency-most u) (frequency-most v)

module _ {s ls lr r frames : ℕ} (ok : SpatialRange s ls lr r frames) where
  variance-most : variance side16 ls lr r ≤ 65536 * 65520 + 16 * 4194304
  unfolding variance side16
  variance-most = add-le-add (mul-le-mul ok.shot ok.root) (mul-le-mul_left 16 ok.read)

  pub scale-most : s * variance side16 ls lr r ≤ scale_most
  scale-most = mul-le-mul ok.strength variance-most

  -- the code's order of the factors
  pub number_is : (u v : ℕ) → distance u v * (s * variance side16 ls lr r) / (16384 * frames) ≡ spatial_number side16 s ls lr r frames u v
  unfolding spatial_number
  number_is u v = ap (λ n. n / (16384 * frames)) (sym (mul_assoc (distance u v) s (variance side16 ls lr r)) ∙ ap (λ n. n * variance side16 ls lr r) (mul_comm (distance u v) s))

  -- the bound of V'
  pub spatial-number-most : (u v : ℕ) → spatial_number side16 s ls lr r frames u v ≤ 12333531136
  spatial-number-most u v = subst (λ n. n ≤ 12333531136) (number_is u v) (le_trans (quotient (16384 * frames) (omega (arith, ok.some))) (lit≤ tt))
    where
      product : distance u v * (s * variance side16 ls lr r) ≤ 181 * scale_most
      product = mul-le-mul (distance_most u v) scale-most

      quotient : (d : ℕ) → 16384 ≤ d → distance u v * (s * variance side16 ls lr r) / d ≤ 181 * scale_most / 16384
      quotient d l =
          (le-div_iff_mul-le {k = 16384} {x = distance u v * (s * variance side16 ls lr r) / d} {y = 181 * scale_most} (lit< tt)).1
          (le_trans (mul-le-mul_left (distance u v * (s * variance side16 ls lr r) / d) l) (le_trans (div-mul-le_self (distance u v * (s * variance side16 ls lr r)) d) product))

-- V' of a bin is that of the indices that it counts as
pub number-folded : (s ls lr r frames u v : ℕ) → spatial_number side16 s ls lr r frames (frequency u) (frequency v) ≡ spatial_number side16 s ls lr r frames u v
unfolding spatial_number distance
number-folded s ls lr r frames u v =
    let p = frequency-low (frequency u) (frequency-most u) in
    let q = frequency-low (frequency v) (frequency-most v) in
    ap₂ (λ a b. s * whole_root (256 * (a * a + b * b)) * variance side16 ls lr r / (16384 * frames)) p q
