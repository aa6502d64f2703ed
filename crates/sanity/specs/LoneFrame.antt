-- Try a burst of one frame, without the spatial filter ("only there is L4's lone frame promised unchanged"): it comes back unchanged, whatever the noise and the strength are:
-- here sample for sample, in proofs/LoneFrame the whole frame.
use Rattle.std.specs.Prelude.{◌≡◌, ◌+◌, ◌-◌, ◌*◌, ◌<◌, ◌≤◌}
use Rattle.sanity.specs.Prelude.{refl, ap, List, ℕ, arith, ℤ, pos, zarith, sum_n, clamp_z, Shape, vector_length, rows_summed, Scene, output_at, Side}
use Rattle.std.proofs.Common.{zero-mul}
use Rattle.std.proofs.Math.Nat.{mul-le-mul_right}
use Rattle.algebra.specs.Fraction.{whole, ◌+F◌, ◌-F◌, over, sum_f, held, Within}
use Rattle.algebra.specs.FractionLaws.{within_same}
use Rattle.algebra.specs.ClampLaws.{clamp-same}
use Rattle.recipe.specs.Exact.{exact_sample}
use Rattle.sanity.specs.Frames.{frame_words, Alike}
use Rattle.sanity.specs.MergeLaws.{Uncorrected, output-is}

module _ (s : Scene) (plain : s.tuning.spatial ≡ 0) (lone : s.others ≡ 0) where
  -- there is nothing to correct by
  uncorrected : (row column : ℕ) → Uncorrected s row column
  uncorrected row column = record { none = λ t k i j h. absurd (omega arith) }

  -- sample for sample
  pub sample-back : (row column : ℕ) → s.reference row column ≤ 4095 → output_at s row column ≡ pos (s.reference row column)
  sample-back row column most = output-is s plain row column most (uncorrected row column)

-- such a burst's frames are all the reference
pub alone : (s : Shape) (reference : ℕ) (samples : List ℕ) → s.count ≡ 1 → reference < s.count → Alike s reference samples
alone s reference samples lone below =
    record {
      words = λ frame h. let same : frame ≡ reference = omega arith in ap (frame_words s samples) same;
    }

-- "the vector buffer has length 0"
pub no_vectors : (s : Shape) → s.count ≡ 1 → vector_length s ≡ 0
unfolding vector_length
no_vectors s lone = let none : s.count - 1 ≡ 0 = omega arith in rw none (zero-mul _)

-- and no row is summed
pub no_rows : (s : Shape) (reference : ℕ) (samples : List ℕ) → s.count ≡ 1 → rows_summed s reference samples ≡ 0
unfolding rows_summed sum_n
no_rows s reference samples lone = let none : s.count - 1 ≡ 0 = omega arith in rw none refl

-- The exact merge of a lone frame is that frame too: the distance is 0
module _ (n : Side) (a b t : ℕ) (noise : ℕ → ℕ) (d : ℕ → ℕ → ℕ → ℕ → ℤ) (most : t ≤ 4095) where
  pub exact-lone : Within 0 1 (whole (pos t)) (exact_sample n a b 0 noise d (pos t))
  unfolding exact_sample sum_f ◌+F◌ ◌-F◌ over whole held
  exact-lone =
      let m = n.weight in
      let le : t * m ≤ 4095 * m = mul-le-mul_right m most in
      let same : clamp_z (pos 0) (pos (4095 * (1 * (1 * (m * 1))))) (pos (t * (1 * (m * 1)) + 0)) ≡ pos (t * (1 * (m * 1)) + 0) = clamp-same _ _ _ (omega zarith) (omega (zarith, le)) in
      within_same 1 _ _ (rw same (ap pos (omega arith)))
