-- One frame at a time: its residuals are those of the definition, and they stand where it says.
use Rattle.align_measure.specs.Prelude.{sym, ap, ap₂, subst, ◌∙◌, List, ℕ, arith, length, ℤ, Shape, Allowed, Image, sample_at, finest_level, tile_columns, other_frame, vector_place, down_at, right_at, frame_tiles, residual_length, pyramid_length, Levels, Built, residual, level_tile, pairs}
use Rattle.std.specs.Prelude.{refl, ◌≡◌, ◌+◌, ◌-◌, ◌*◌, ◌/◌, ◌%◌, ◌≤◌, ◌<◌}
use Rattle.std.proofs.Common.{subst₂, zero-add, zero-mul, suc-mul, div-add-mod'}
use Rattle.sequences.specs.Place.{row_room, place-row, place-column}
use Rattle.sequences.specs.Write.{written, Writing, write-start, write-part, write_done, written_all}
use Rattle.geometry.specs.Shape.{vector_length}
use Rattle.align_pyramid.specs.LayoutLaws.{levels-kept}
use Rattle.align_burst.specs.FrameLaws.{frame-pairs}
use Rattle.align_burst.specs.Sites.{pairs_in}
use Rattle.align_burst.specs.BurstLaws.{place-room}
use Rattle.align_measure.specs.Residuals.{tile_residual, residual_word, tile_residuals}
use Rattle.align_measure.specs.Frames.{vector_in, residual_in, Measured, MeasuredBurst}

-- ---- where the words and the vectors stand

twice : (k n a t : ℕ) → a ≡ t → k * (2 * n) + 2 * a ≡ 2 * (k * n + t)
twice k n a t e = omega (arith, e)

module _ (s : Shape) (reference : ℕ) (samples : List ℕ) (vectors : List ℤ) (k t : ℕ) where
  -- the vector of tile t stands at twice its word's place
  place_is : vector_place s k (t / tile_columns s) (t % tile_columns s) ≡ 2 * (k * frame_tiles s + t)
  unfolding vector_place
  place_is = twice k (frame_tiles s) (t / tile_columns s * tile_columns s + t % tile_columns s) t (div-add-mod' t (tile_columns s))

  residual_is : tile_residual s reference samples vectors k (t / tile_columns s) (t % tile_columns s) ≡ residual_in s.side (pairs s (sample_at s samples reference) (sample_at s samples (other_frame reference k)) 0) (tile_columns s) vectors (k * frame_tiles s) t
  unfolding tile_residual residual_in down_at right_at
  residual_is =
      ap (λ place. residual (finest_level s.side).squared (pairs s (sample_at s samples reference) (sample_at s samples (other_frame reference k)) 0) (level_tile (finest_level s.side) (t / tile_columns s) (t % tile_columns s)) (vector_in vectors place)) place_is

  pub word-tile : t < frame_tiles s → residual_word s reference samples vectors (k * frame_tiles s + t) ≡ tile_residual s reference samples vectors k (t / tile_columns s) (t % tile_columns s)
  unfolding residual_word
  word-tile h = ap₂ (λ q r. tile_residual s reference samples vectors q (r / tile_columns s) (r % tile_columns s)) (place-row k t (frame_tiles s) h) (place-column k t (frame_tiles s) h)

  word-is : t < frame_tiles s → residual_in s.side (pairs s (sample_at s samples reference) (sample_at s samples (other_frame reference k)) 0) (tile_columns s) vectors (k * frame_tiles s) t ≡ residual_word s reference samples vectors (k * frame_tiles s + t)
  word-is h = sym (word-tile h ∙ residual_is)

-- ---- the two pyramids

module _ {s : Shape} {reference other : Image} {d l : List ℤ} (ok : Allowed s) (r : Levels s reference 0 d) (b : Built s other (pyramid_length s) d l) where
  reference-stands : Levels s reference 0 l
  reference-stands = levels-kept r (record { same = b.same; kept = λ i h. b.before i (omega arith) })

  pub frame-measured : {vectors : List ℤ} {to : ℕ} {e e' : List ℕ} → e' ≡ written e to (residual_in s.side (pairs_in s l 0) (tile_columns s) vectors to) (frame_tiles s) → Measured s reference other vectors to e e' d l
  frame-measured {vectors} {to} {e} is =
      record {
        residuals = is ∙ ap (λ p. written e to (residual_in s.side (p 0) (tile_columns s) vectors to) (frame_tiles s)) (frame-pairs ok reference-stands b.levels);
        levels = reference-stands;
        same = b.same;
      }

-- ---- the loop over the other frames

-- the k-th frame's words and vectors lie within the lent ones
pub word_room : (s : Shape) (k : ℕ) → k < s.count - 1 → k * frame_tiles s + frame_tiles s ≤ residual_length s
unfolding residual_length
word_room s k h = row_room k (s.count - 1) (frame_tiles s) h

pub vector-room : (s : Shape) (k : ℕ) → k < s.count - 1 → 2 * (k * frame_tiles s + frame_tiles s) ≤ vector_length s
vector-room s k h = omega (arith, place-room s k h, twice k (frame_tiles s) (frame_tiles s) (frame_tiles s) refl)

-- the reference's pyramid stands, and the words of the first k other frames are written
pub record Measuring (s : Shape) (reference : ℕ) (samples : List ℕ) (vectors : List ℤ) (residuals₀ : List ℕ) (work₀ : List ℤ) (k : ℕ) (residuals : List ℕ) (work : List ℤ) : Type 0 where
  pub levels : Levels s (sample_at s samples reference) 0 work
  pub same : length work ≡ length work₀
  pub writing : Writing residuals₀ 0 (residual_word s reference samples vectors) (residual_length s) (k * frame_tiles s) residuals

module _ {s : Shape} {reference : ℕ} {samples : List ℕ} {vectors : List ℤ} {residuals₀ : List ℕ} {work₀ : List ℤ} where
  pub measuring-start : length residuals₀ ≡ residual_length s → Levels s (sample_at s samples reference) 0 work₀ → Measuring s reference samples vectors residuals₀ work₀ 0 residuals₀ work₀
  measuring-start long h =
      record {
        levels = h;
        same = refl;
        writing = subst (λ j. Writing residuals₀ 0 (residual_word s reference samples vectors) (residual_length s) j residuals₀) (sym (zero-mul (frame_tiles s))) (write-start (omega arith));
      }

  pub measuring-turn : {k frame to : ℕ} {residuals residuals' : List ℕ} {work work' : List ℤ} → Measuring s reference samples vectors residuals₀ work₀ k residuals work → k < s.count - 1 →
      frame ≡ other_frame reference k → to ≡ k * frame_tiles s → Measured s (sample_at s samples reference) (sample_at s samples frame) vectors to residuals residuals' work work' →
      Measuring s reference samples vectors residuals₀ work₀ (k + 1) residuals' work'
  measuring-turn {k} {frame} {to} {residuals} {residuals'} {work} {work'} w h f t b =
      let a : Measured s (sample_at s samples reference) (sample_at s samples (other_frame reference k)) vectors (k * frame_tiles s) residuals residuals' work work' =
      subst₂ (λ f t. Measured s (sample_at s samples reference) (sample_at s samples f) vectors t residuals residuals' work work') f t b in
      record {
        levels = a.levels;
        same = a.same ∙ w.same;
        writing =
            subst (λ j. Writing residuals₀ 0 (residual_word s reference samples vectors) (residual_length s) j residuals') (omega (arith, suc-mul k (frame_tiles s)))
            (write-part w.writing (word_room s k h) (λ i b. word-is s reference samples vectors k i b) (rw zero-add a.residuals));
      }

  pub measuring-done : {k : ℕ} {residuals : List ℕ} {work : List ℤ} → length residuals₀ ≡ residual_length s → k ≡ s.count - 1 → Measuring s reference samples vectors residuals₀ work₀ k residuals work → MeasuredBurst s reference samples vectors residuals work₀ work
  unfolding tile_residuals residual_length
  measuring-done {k} {residuals} long e w =
      record {
        found =
            write_done w.writing (omega (arith, ap (λ n. n * frame_tiles s) e))
            ∙ written_all 0 residuals₀ (residual_word s reference samples vectors) (residual_length s) long;
        same = w.same;
      }
