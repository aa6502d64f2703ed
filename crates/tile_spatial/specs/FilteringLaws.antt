-- P' depends on the copy's numbers and on V' of the tile's bins alone; and its size.
use Rattle.std.specs.Prelude.{◌≡◌, ◌^◌, ◌≤◌, ◌<◌, ◌-ℤ◌, ◌*ℤ◌}
use Rattle.tile_spatial.specs.Prelude.{ap, ap₂, ℕ, ℤ, nat_abs, away, side16, bin_re, bin_im, twiddle_re, twiddle_im, inverse_re, inverse_at, copy_filtered, spatial_most, spatial_correction_most}
use Rattle.algebra.specs.SumLaws.{sum_z-cong}
use Rattle.tile_spectrum.specs.DifferenceLaws.{bin-re, bin-im}
use Rattle.tile_spectrum.specs.SizeLaws.{spatial-small}
use Rattle.tile_spatial.specs.Filtering.{step_at}

pub step-cong : (noise : ℕ → ℕ → ℕ) (c d : ℕ → ℕ → ℤ) → ((y x : ℕ) → y < 16 → x < 16 → c y x ≡ d y x) → (y x : ℕ) → step_at noise c y x ≡ step_at noise d y x
unfolding step_at side16
step-cong noise c d same y x =
    ap₂ (λ re im. inverse_at side16 (λ u v. copy_filtered side16 (noise u v) (re u v) (im u v)) (λ u v. copy_filtered side16 (noise u v) (im u v) (re u v)) y x) (bin-re side16 c d same) (bin-im side16 c d same)

pub step-noise : (m n : ℕ → ℕ → ℕ) → ((u v : ℕ) → u < 16 → v < 16 → m u v ≡ n u v) → (c : ℕ → ℕ → ℤ) (y x : ℕ) → step_at m c y x ≡ step_at n c y x
unfolding step_at inverse_at inverse_re side16
step-noise m n same c y x =
    ap (λ z. away z (2 ^ 32))
    (sum_z-cong 16 _ _
    (λ u h. sum_z-cong 16 _ _
    (λ v k. ap (λ n. twiddle_re side16 y x u v *ℤ copy_filtered side16 n (bin_re side16 c u v) (bin_im side16 c u v) -ℤ twiddle_im side16 y x u v *ℤ copy_filtered side16 n (bin_im side16 c u v) (bin_re side16 c u v)) (same u v h k))))

pub step-most : (noise : ℕ → ℕ → ℕ) → ((u v : ℕ) → noise u v ≤ spatial_most) → (c : ℕ → ℕ → ℤ) (y x : ℕ) → nat_abs (step_at noise c y x) ≤ spatial_correction_most
unfolding step_at
step-most noise l c = spatial-small noise l (bin_re side16 c) (bin_im side16 c)
