-- Document 01, "Checked figures (marked M: proved as one table)": the definitions that the contracts cite, computed.
use Rattle.algebra.specs.Prelude.{refl, false, cond, List, [], ℕ, zero, suc, arith, eqb, ℤ, pos, neg_ℤ}
use Rattle.std.proofs.Common.{ne_eqb}
use Rattle.std.specs.Prelude.{Float, ◌≡◌, ◌&&◌, ◌∷◌, ◌+◌, ◌^◌, ◌<◌}
use Rattle.std.specs.Float.{fin}
use Rattle.std.specs.Float.Ieee.{mul, div, of_int}
use Rattle.algebra.specs.Sums.{sum_n}
use Rattle.algebra.specs.Nearest.{away}
use Rattle.geometry.specs.declared.tiles.Quotient.TheVariants.{Four}
use Rattle.geometry.specs.Tiles.{own2, own4, own, neighbour2, neighbour4, neighbour}
use Rattle.noise.specs.declared.Noise.{Noise}
use Rattle.noise.specs.declared.Noise.TheVariants.{Measured, Iso}
use Rattle.noise.specs.Levels.{invalid_curve, invalid_iso, invalid_noise, above_limits, noise_tests, levels_of, shot_level, read_level}
use Rattle.refusals.specs.Tests.{first}
use Rattle.refusals.specs.After.{after}
use Rattle.recipe.specs.Root.{root_in, whole_root}
use Rattle.recipe.specs.NoiseNumber.{sum_of_squares, tile_root, variance, noise_number}
use Rattle.recipe.specs.Side.{cos_at, sin_at}
use Rattle.recipe.specs.Tables.{cosines, cosine16, sine16, side16}
use Rattle.recipe.specs.Correction.{wiener, twiddle_re, twiddle_im, inverse_at}
use Rattle.figures.specs.LoneBin.{lone-bin}

-- a tile that holds v in row y and column x, and `rest` elsewhere
abbrev pub only : {A : Type 0} → (y x : ℕ) → A → A → ℕ → ℕ → A
only y x v rest i j = cond (eqb i y && eqb j x) v rest

abbrev pub one : Float
one = fin false 1 (pos 0)

abbrev pub iso400 : Noise
iso400 = Iso 400 (record { shot = one; read = one })

abbrev pub shot64 : Noise
shot64 = Measured (record { shot = fin false 1 (pos 6); read = fin false 0 (pos 0) })

-- M1 to M11 in their order; M11's P is that at row y and column x of the tile, whichever they are
abbrev pub computed : (y x : ℕ) → List ℤ
computed y x =
    pos (tile_root 16 0 (λ i j. 100))
    ∷ pos (tile_root 16 0 (λ i j. 4095))
    ∷ pos (tile_root 16 0 (only 0 0 1 0))
    ∷ pos (noise_number side16 8 1024 0 1600)
    ∷ pos (noise_number side16 0 1024 0 1600)
    ∷ pos (shot_level (levels_of iso400)) ∷ pos (read_level (levels_of iso400))
    ∷ pos (shot_level (levels_of shot64))
    ∷ pos (own Four 5) ∷ pos (neighbour Four 5)
    ∷ pos (own Four 6) ∷ pos (neighbour Four 6)
    ∷ wiener (2 ^ 32) (neg_ℤ (pos 16384)) (pos 0)
    ∷ inverse_at side16 (only 0 0 (neg_ℤ (pos 15420)) (pos 0)) (λ u v. pos 0) y x
    ∷ []

abbrev pub stated : List ℤ
stated =
    pos 1600
    ∷ pos 65520
    ∷ pos 1
    ∷ pos 819200
    ∷ pos 0
    ∷ pos 4096 ∷ pos 16384
    ∷ pos 65536
    ∷ pos 1 ∷ pos 2
    ∷ pos 2 ∷ pos 1
    ∷ neg_ℤ (pos 15420)
    ∷ neg_ℤ (pos 964)
    ∷ []

pub figures : (y x : ℕ) → computed y x ≡ stated
unfolding tile_root sum_of_squares sum_n whole_root root_in noise_number variance levels_of noise_tests first after invalid_noise invalid_curve invalid_iso above_limits mul div of_int own own2 own4 neighbour neighbour2 neighbour4 wiener away inverse_at twiddle_re twiddle_im cos_at sin_at side16 cosine16 sine16 cosines
figures y x = rw (lone-bin side16 (only 0 0 (neg_ℤ (pos 15420)) (pos 0)) (λ u v. pos 0) none y x)
  where
    none : (u v : ℕ) → u < 16 → v < 16 → 0 < u + v → (only 0 0 (neg_ℤ (pos 15420)) (pos 0) u v ≡ pos 0) × (pos 0 ≡ pos 0)
    none zero zero h k l = absurd (omega arith)
    none zero (suc v) h k l = (rw (ne_eqb (suc v) 0 (omega arith)), refl)
    none (suc u) v h k l = (rw (ne_eqb (suc u) 0 (omega arith)), refl)
