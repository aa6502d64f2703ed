-- What a band's tests let through.
use Rattle.std.specs.Prelude.{◌≡◌, ◌+◌, ◌%◌, ◌≤◌}
use Rattle.admit_length.specs.Prelude.{not, ℕ, arith, first, Shape, sample_length, vector_length, TileSide, BurstFits}
use Rattle.std.proofs.Common.{⊎_elim, leb-true, eqb-true}
use Rattle.std.proofs.lemmas.Bool.{not-false}
use Rattle.refusals.specs.Numbers as no
use Rattle.refusals.specs.TestLaws.{among, passed, refuse-not}
use Rattle.geometry.specs.ShapeLaws.{both, allowed, allowed-side, below-count, right-length}
use Rattle.admit_length.specs.Order.{shape_tests, burst_tests}
use Rattle.admit_length.specs.Bands.{band_allowed, band_part_refusal, band_length, band_work_length, band_lengths, band_shape_tests}

-- a side
pub side-least : {n : ℕ} → TileSide n → 1 ≤ n
side-least t = ⊎_elim (λ e. rw e (omega arith)) (λ e. rw e (omega arith)) t.is

pub side-most : {n : ℕ} → TileSide n → n ≤ 32
side-most t = ⊎_elim (λ e. rw e (omega arith)) (λ e. rw e (omega arith)) t.is

-- a band that 27 has let through
pub record BandIn (s : Shape) (top rows : ℕ) : Type 0 where
  pub top_on : top % s.side ≡ 0
  pub rows_on : rows % s.side ≡ 0
  pub some : 1 ≤ rows
  pub inside : top + rows ≤ s.height

pub band-in : (s : Shape) (top rows : ℕ) → band_part_refusal s top rows ≡ 0 → BandIn s top rows
unfolding band_part_refusal band_allowed
band-in s top rows e =
    let within = both (not-false _ (refuse-not no.absent_part (not (band_allowed s top rows)) tt e)) in
    let some = both within.0 in
    let on = both some.0 in
    record { top_on = eqb-true _ _ on.0; rows_on = eqb-true _ _ on.1; some = leb-true _ _ some.1; inside = leb-true _ _ within.1 }

-- a band with buffers of its lengths
pub record BandFits (s : Shape) (reference top rows samples vectors output work : ℕ) : Type 0 where
  pub burst : BurstFits s reference samples vectors
  pub band : BandIn s top rows
  pub output_long : output ≡ band_length s rows
  pub work_long : work ≡ band_work_length s

pub band-fits : (s : Shape) (reference top rows samples vectors output work : ℕ) → first (band_shape_tests s reference top rows samples vectors output work) ≡ 0 →
    BandFits s reference top rows samples vectors output work
unfolding shape_tests burst_tests band_lengths band_shape_tests
band-fits s reference top rows samples vectors output work e =
    record {
      burst = record {
        allowed = allowed s (passed e (search among depth 20)) (passed e (search among depth 20)) (passed e (search among depth 20));
        sided = allowed-side s (passed e (search among depth 20));
        reference_below = below-count s reference (passed e (search among depth 20));
        samples_long = right-length no.wrong_sample_length (sample_length s) samples tt (passed e (search among depth 20));
        vectors_long = right-length no.wrong_vector_length (vector_length s) vectors tt (passed e (search among depth 20));
      };
      band = band-in s top rows (passed e (search among depth 20));
      output_long = right-length no.wrong_output_length (band_length s rows) output tt (passed e (search among depth 20));
      work_long = right-length no.wrong_work_length (band_work_length s) work tt (passed e (search among depth 20));
    }
