-- Frames that are flat, each of one sample value, and the value of their merge in a line of arithmetic.
use Rattle.std.specs.Prelude.{◌≡◌, ◌-◌, ◌*◌, ◌≤◌, ◌<◌, ◌-ℤ◌, ◌*ℤ◌}
use Rattle.algebra.specs.Prelude.{List, ℕ, suc, ℤ, pos}
use Rattle.sanity.specs.Prelude.{replicate, sum_z, clamp_z, away, upward, Shape, output_length, Sampled, other_frame, side16, noise_number, wiener, Scene}
use Rattle.sanity.specs.Frames.{Same, frame_words}

-- without the spatial filter, the reference has the sample a everywhere, and the k-th other frame b k
pub record Flat (s : Scene) (a : ℕ) (b : ℕ → ℕ) : Type 0 where
  pub of_16 : s.side ≡ side16
  pub plain : s.tuning.spatial ≡ 0
  pub high : 2 ≤ s.height
  pub wide : 2 ≤ s.width
  pub reference : Same s.height s.width s.reference (λ row column. a)
  pub other : (k : ℕ) → k < s.others → Same s.height s.width (s.other k) (λ row column. b k)

-- the same of a burst's words
pub record FlatBurst (s : Shape) (reference : ℕ) (samples : List ℕ) (a : ℕ) (b : ℕ → ℕ) : Type 0 where
  pub sampled : Sampled s samples
  pub below : reference < s.count
  pub reference_words : frame_words s samples reference ≡ replicate (output_length s) a
  pub other_words : (k : ℕ) → k < s.count - 1 → frame_words s samples (other_frame reference k) ≡ replicate (output_length s) (b k)

-- P of a difference c at the noise number, in 1/256: the one bin Q = 4096·c, filtered, and G divided by 16
unfoldable pub flat_correction : (noise : ℕ) (c : ℤ) → ℤ
flat_correction noise c = away (wiener noise (c *ℤ pos 4096) (pos 0)) 16

-- on a plane of that black level, a − (sum of P)/(256·N), to nearest, halves upward, held to 0..4095; r is 16·(a − black)
unfoldable pub flat_output : Scene → (black a : ℕ) (b : ℕ → ℕ) → ℤ
flat_output s black a b =
    clamp_z (pos 0) (pos 4095)
    (upward (pos a *ℤ pos (256 * suc s.others) -ℤ sum_z s.others (λ k. flat_correction (noise_number side16 s.tuning.strength s.shot s.read (16 * (a - black))) (pos a -ℤ pos (b k)))) (256 * suc s.others))
