-- Bytes are accepted exactly when they are the file of a frame that the lent one is as long as; and which number refuses any others.
use Rattle.std.specs.Prelude.{◌≡◌, ◌∷◌, ◌++◌, ◌*◌, ◌≤◌, ◌<◌}
use Rattle.file_pgm.specs.Prelude.{refl, sym, ap, ap₂, ◌∙◌, Bool, true, false, List, [], ℕ, arith, ltb, length, get_or, drop, first, length_refusal, pgm_header, bytes_of, some_above, above_refusal, samples_of}
use Rattle.std.proofs.Math.Seq.{drop-append_seam}
use Rattle.std.proofs.Common.{ltb-false, lt-ltb, le-ltb}
use Rattle.refusals.specs.Numbers as no
use Rattle.refusals.specs.TestLaws.{here, there, passed, refuse-not}
use Rattle.refusals.specs.SomeLaws.{one, none, not-one, every}
use Rattle.geometry.specs.ShapeLaws.{right-length}
use Rattle.file_pgm.specs.Form.{file_of, PgmFile, file_length}
use Rattle.file_pgm.specs.Writing.{write_refusal}
use Rattle.file_pgm.specs.Reading.{width_in, height_in, samples_as, samples_in, formed, refusal_as, read_refusal}
use Rattle.file_pgm.specs.Samples.Blocks.{Bytes}
use Rattle.file_pgm.specs.FormLaws.{passes, length-passes, length-stops, bytes-long, file-long}
use Rattle.file_pgm.specs.Samples.SampleLaws.{bytes_drop, samples-bytes, samples_long, bytes-samples}
use Rattle.file_pgm.specs.HeaderLaws.{Formed, form-sound, form-complete, width_read, height-read}

-- refusal 11 passes exactly the samples up to 4095
above-sound : (samples : List ℕ) → above_refusal samples ≡ 0 → (k : ℕ) → get_or samples k 0 ≤ 4095
unfolding above_refusal some_above
above-sound samples e =
    let below = none (length samples) (λ k. ltb 4095 (get_or samples k 0)) (refuse-not no.sample_value _ tt e) in
    every (λ x. x ≤ 4095) 0 samples (omega arith) (λ k l. ltb-false 4095 (get_or samples k 0) (below k l))

above-complete : (samples : List ℕ) → ((k : ℕ) → get_or samples k 0 ≤ 4095) → above_refusal samples ≡ 0
unfolding above_refusal some_above
above-complete samples small = rw (not-one (length samples) (λ k. ltb 4095 (get_or samples k 0)) (λ k l. le-ltb 4095 (get_or samples k 0) (small k)))

-- writing accepts exactly a frame that has a file, with as many bytes as that has
module _ (width height : ℕ) (frame bytes : List ℕ) where
  pub write-sound : write_refusal width height frame bytes ≡ 0 → PgmFile (file_of width height frame) width height frame × (length bytes ≡ file_length width height)
  unfolding write_refusal
  write-sound e = (
    record {
      allowed = passes no.size _ tt (passed e here);
      long = right-length no.wrong_output_length _ _ tt (passed e (there here));
      small = above-sound frame (passed e (there (there (there here))));
      is = refl;
    },
    right-length no.byte_length _ _ tt (passed e (there (there here))),
  )

pub write-complete : {file : List ℕ} {width height : ℕ} {frame : List ℕ} (bytes : List ℕ) → PgmFile file width height frame → length bytes ≡ length file → write_refusal width height frame bytes ≡ 0
unfolding write_refusal first
write-complete {file} {width} {height} {frame} bytes p e =
    rw (
      p.allowed,
      length-passes no.wrong_output_length (width * height) (length frame) p.long,
      length-passes no.byte_length (file_length width height) (length bytes) (e ∙ ap length p.is ∙ file-long width height frame p.long),
      above-complete frame p.small,
    )

-- what is known of bytes that are let through as a file of a size
pub readable : (width height : ℕ) (bytes : List ℕ) (room : ℕ) → refusal_as width height bytes room ≡ 0 → (formed width height bytes ≡ true) × (room ≡ width * height)
unfolding refusal_as
readable width height bytes room e = (passes no.pgm_form _ tt (passed e here), right-length no.wrong_output_length _ _ tt (passed e (there here)))

module _ (bytes : List ℕ) where
  -- what is accepted is a file, as long as the frame
  pub sound : Bytes bytes → (room : ℕ) → read_refusal bytes room ≡ 0 → PgmFile bytes (width_in bytes) (height_in bytes) (samples_in bytes) × (room ≡ width_in bytes * height_in bytes)
  unfolding read_refusal refusal_as samples_in samples_as file_of
  sound all room e =
      let width = width_in bytes in
      let height = height_in bytes in
      let start = length (pgm_header width height) in
      let fits = readable width height bytes room e in
      let f = form-sound width height bytes fits.0 in
      let raster = bytes_drop bytes start all in (
        record {
          allowed = f.allowed;
          long = samples_long (width * height) (drop start bytes) f.long;
          small = above-sound _ (passed e (there (there here)));
          is = f.is ∙ ap (λ l. pgm_header width height ++ l) (sym (bytes-samples (width * height) (drop start bytes) f.long raster));
        },
        fits.1,
      )

  -- 17: bytes that are no header and samples of any allowed size
  pub refused-17 : (room : ℕ) → ((width height : ℕ) (raster : List ℕ) → Formed width height bytes raster → ⊥) → read_refusal bytes room ≡ no.pgm_form
  unfolding read_refusal refusal_as first
  refused-17 room h = rw (not-formed (formed (width_in bytes) (height_in bytes) bytes) (λ e. h _ _ _ (form-sound (width_in bytes) (height_in bytes) bytes e)))
    where
      not-formed : (b : Bool) → (b ≡ true → ⊥) → b ≡ false
      not-formed true h = absurd (h refl)
      not-formed false h = refl

module _ {width height : ℕ} {bytes raster : List ℕ} (f : Formed width height bytes raster) where
  -- the tests left to bytes of the form
  rest : (room : ℕ) → read_refusal bytes room ≡ first (length_refusal no.wrong_output_length (width * height) room ∷ above_refusal (samples_of raster) ∷ [])
  unfolding read_refusal refusal_as samples_as first
  rest room =
      ap₂ (λ w h. refusal_as w h bytes room) (width_read f) (height-read f)
      ∙ rw (form-complete f, ap (drop (length (pgm_header width height))) f.is ∙ drop-append_seam (pgm_header width height) raster)

  -- 6: a frame of another length
  pub refused-6 : (room : ℕ) → (room ≡ width * height → ⊥) → read_refusal bytes room ≡ no.wrong_output_length
  unfolding first
  refused-6 room h = rest room ∙ rw (length-stops no.wrong_output_length _ _ h)

  -- 11: a sample above 4095
  pub refused-11 : (k : ℕ) → k < length (samples_of raster) → 4095 < get_or (samples_of raster) k 0 → read_refusal bytes (width * height) ≡ no.sample_value
  unfolding above_refusal some_above first
  refused-11 k h l =
      rest (width * height)
      ∙ rw (length-passes no.wrong_output_length (width * height) (width * height) refl, one (length (samples_of raster)) (λ k. ltb 4095 (get_or (samples_of raster) k 0)) k h (lt-ltb 4095 (get_or (samples_of raster) k 0) l))

-- the file of a frame is accepted, and as what it holds
module _ {bytes : List ℕ} {width height : ℕ} {frame : List ℕ} (p : PgmFile bytes width height frame) where
  pub of-form : Formed width height bytes (bytes_of frame)
  unfolding file_of
  of-form = record { allowed = p.allowed; long = bytes-long frame ∙ ap (λ n. 2 * n) p.long; is = p.is }

  pub complete : read_refusal bytes (width * height) ≡ 0
  unfolding first
  complete =
      rest of-form (width * height)
      ∙ rw (length-passes no.wrong_output_length (width * height) (width * height) refl, samples-bytes frame, above-complete frame p.small)

  pub samples-read : samples_in bytes ≡ frame
  unfolding samples_in samples_as file_of
  samples-read =
      ap₂ (λ w h. samples_as w h bytes) (width_read of-form) (height-read of-form)
      ∙ ap (λ l. samples_of (drop (length (pgm_header width height)) l)) p.is
      ∙ ap samples_of (drop-append_seam (pgm_header width height) (bytes_of frame))
      ∙ samples-bytes frame
