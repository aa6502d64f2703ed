-- One frame at a time: the reference's pyramid stays, and the frame's own is laid behind it.
use Rattle.std.specs.Prelude.{◌≡◌, refl, length, set, replicate, ◌++◌, ◌+◌, ◌-◌, ◌*◌, ◌≤◌, ◌<◌}
use Rattle.std.proofs.Math.Path.{sym, ap, ap₂, subst, subst₂}
use Rattle.std.proofs.Common.{◌∙◌, zero-mul}
use Rattle.align_burst.specs.Prelude.{List, ℕ, zero, suc, arith, ℤ, pos, Shape, vector_length, work_length, Allowed, TileSide, BurstFits, AlignFits, SamplesFit, Image, sample_at, tile_columns, frame_parts, other_frame, word, word_of, vector_list, tab, pyramid_length, align_length, Levels, Built, Sums}
use Rattle.std.proofs.Math.Nat.{zero-add, suc-mul}
use Rattle.std.proofs.Math.ListN.{drop}
use Rattle.geometry.specs.VectorLaws.{word-of}
use Rattle.sequences.specs.TabLaws.{Filled, fill_start, fill-turn}
use Rattle.sequences.specs.Write.{written, Writing, write-start, write-part, write_done, written_all}
use Rattle.sequences.specs.Place.{row_room}
use Rattle.align_pyramid.specs.WordsLaws.{Kept}
use Rattle.align_pyramid.specs.LayoutLaws.{align_fits, built-kept, levels-kept}
use Rattle.align_pyramid.specs.Bayer.Frame.{Frame}
use Rattle.align_pyramid.specs.Bayer.FrameLaws.{frame-fits}
use Rattle.align_burst.specs.Fields.{field0, residual_sum}
use Rattle.align_burst.specs.Frames.{pairs, vectors_of, residual_of}
use Rattle.align_burst.specs.Magnitudes.{frame_rows_most}
use Rattle.align_burst.specs.Rows.{frame_rows, rows_of, count_of, rows_summed}
use Rattle.align_burst.specs.RowLaws.{frame-rows-most}
use Rattle.sequences.specs.Sum.{Summed, sum-start, sum-turn, sum_done}
use Rattle.align_burst.specs.FrameLaws.{frame-standing, frame-pairs}
use Rattle.align_burst.specs.Sites.{pairs_in, Standing, Aligned}
use Rattle.align_burst.specs.Aligned.{field_of, sum_of, aligned_vectors, residual_sums}
use Rattle.align_burst.specs.Burst.{AlignedBurst, OneAligned}

-- two pyramids lie within what alignment lays
pub two-pyramids : (s : Shape) {n : ℕ} → align_length s ≤ n → 2 * pyramid_length s ≤ n
unfolding align_length
two-pyramids s h = omega arith

kept_less : {d l : List ℤ} {m n : ℕ} → m ≤ n → Kept d n l → Kept d m l
kept_less h k = record { same = k.same; kept = λ i l. k.kept i (omega arith) }

module _ {s : Shape} {reference other : Image} {d l : List ℤ} (ok : Allowed s) (sided : TileSide s.side) (r : Levels s reference 0 d) (b : Built s other (pyramid_length s) d l) where
  reference-stays : Levels s reference 0 l
  reference-stays = levels-kept r (kept_less (omega arith) (built-kept b))

  pub both-standing : Standing s l
  both-standing = frame-standing ok reference-stays b.levels

  both-pairs : pairs_in s l ≡ pairs s reference other
  both-pairs = frame-pairs ok reference-stays b.levels

  pub one-aligned : {v v' : List ℤ} {to : ℕ} {l' : List ℤ} {t : Sums} → Aligned s l v to l' v' t → OneAligned s reference other v to v' d l' t
  unfolding vectors_of residual_of rows_of
  one-aligned {v} {v'} {to} a =
      let rows = a.rows_are ∙ ap (frame_rows s.side) both-pairs in
      record {
        vectors = a.vectors ∙ ap (λ p. written v to (word (tile_columns s) (field0 s.side p)) (frame_parts s)) both-pairs;
        residual_is = a.residual_is ∙ ap (residual_sum s.side) both-pairs;
        rows_are = rows;
        few = omega (arith, rows, frame-rows-most ok sided reference other);
        levels = levels-kept reference-stays (kept_less (omega arith) a.kept);
        same = a.kept.same ∙ b.same;
      }

-- ---- the loop over the other frames

-- any frame can be built from, and what is laid fits
pub frame-of : {s : Shape} {reference vectors : ℕ} {samples : List ℕ} → BurstFits s reference (length samples) vectors → SamplesFit s samples → (f : ℕ) → f < s.count → Frame s f samples
frame-of b fit f h = frame-fits f (record { allowed = b.allowed; long = b.samples_long }) fit h

pub frame-room : {s : Shape} {reference samples vectors work : ℕ} → BurstFits s reference samples vectors → s.width * s.height ≤ work → align_length s ≤ work
frame-room b h = omega (arith, align_fits b.allowed)

pub work-room : {s : Shape} {reference samples vectors work : ℕ} → AlignFits s reference samples vectors work → align_length s ≤ work
unfolding work_length
work-room fits = let e = fits.work_long in frame-room fits.burst (omega arith)

-- the k-th frame's vectors lie within the lent ones
pub place-room : (s : Shape) (k : ℕ) → k < s.count - 1 → k * frame_parts s + frame_parts s ≤ vector_length s
unfolding vector_length
place-room s k h = row_room k (s.count - 1) (frame_parts s) h

drop-zeros : (n m : ℕ) → drop {A = ℕ} n (replicate m 0) ≡ replicate (m - n) 0
drop-zeros n m = go n m (m - n) (omega arith) (omega arith)
  where
    go : (n m k : ℕ) → k ≤ m - n → m - n ≤ k → drop {A = ℕ} n (replicate m 0) ≡ replicate k 0
    go zero m k l h = let e : m ≡ k = omega arith in ap (λ i. replicate i 0) e
    go (suc n) zero k l h = let e : 0 ≡ k = omega arith in ap (λ i. replicate i 0) e
    go (suc n) (suc m) k l h = go n m k (omega arith) (omega arith)

-- the reference's pyramid stands, and the first k other frames have their vectors, sums and rows
pub record Aligning (s : Shape) (reference : ℕ) (samples : List ℕ) (vectors₀ work₀ : List ℤ) (sums₀ : List ℕ) (k : ℕ) (vectors work : List ℤ) (sums : List ℕ) (rows : ℕ) : Type 0 where
  pub levels : Levels s (sample_at s samples reference) 0 work
  pub same : length work ≡ length work₀
  pub writing : Writing vectors₀ 0 (word_of s (field_of s reference samples)) (vector_length s) (k * frame_parts s) vectors
  pub filled : Filled (sum_of s reference samples) 7 k sums₀ sums
  pub counted : Summed (count_of s reference samples) frame_rows_most (s.count - 1) k rows

module _ {s : Shape} {reference : ℕ} {samples : List ℕ} {vectors₀ work₀ : List ℤ} {sums₀ : List ℕ} where
  pub aligning-start : length vectors₀ ≡ vector_length s → length sums₀ ≡ 7 → Levels s (sample_at s samples reference) 0 work₀ →
      Aligning s reference samples vectors₀ work₀ sums₀ 0 vectors₀ work₀ sums₀ 0
  aligning-start long seven h =
      record {
        levels = h;
        same = refl;
        writing = subst (λ j. Writing vectors₀ 0 (word_of s (field_of s reference samples)) (vector_length s) j vectors₀) (sym (zero-mul (frame_parts s))) (write-start (omega arith));
        filled = fill_start seven;
        counted = sum-start;
      }

  pub aligning-turn : {k frame to : ℕ} {vectors vectors' work work' : List ℤ} {sums : List ℕ} {rows : ℕ} {r : Sums} → Aligning s reference samples vectors₀ work₀ sums₀ k vectors work sums rows → k < s.count - 1 → k < 7 →
      frame ≡ other_frame reference k → to ≡ k * frame_parts s → OneAligned s (sample_at s samples reference) (sample_at s samples frame) vectors to vectors' work work' r →
      Aligning s reference samples vectors₀ work₀ sums₀ (k + 1) vectors' work' (set sums k r.residual) (rows + r.rows)
  unfolding sum_of field_of
  aligning-turn {k} {frame} {to} {vectors} {vectors'} {work} {work'} {sums} {rows} {r} w h l f t b =
      let a : OneAligned s (sample_at s samples reference) (sample_at s samples (other_frame reference k)) vectors (k * frame_parts s) vectors' work work' r =
      subst₂ (λ f t. OneAligned s (sample_at s samples reference) (sample_at s samples f) vectors t vectors' work work' r) f t b in
      record {
        levels = a.levels;
        same = a.same ∙ w.same;
        writing =
            subst (λ j. Writing vectors₀ 0 (word_of s (field_of s reference samples)) (vector_length s) j vectors') (omega (arith, suc-mul k (frame_parts s)))
            (write-part w.writing (place-room s k h) (λ i b. sym (word-of s (field_of s reference samples) k i b)) (rw zero-add a.vectors));
        filled = fill-turn w.filled l a.residual_is;
        counted = sum-turn w.counted h a.rows_are a.few;
      }

  pub aligning-done : {k : ℕ} {vectors work : List ℤ} {sums : List ℕ} {rows : ℕ} → length vectors₀ ≡ vector_length s → sums₀ ≡ replicate 7 0 → k ≡ s.count - 1 →
      Aligning s reference samples vectors₀ work₀ sums₀ k vectors work sums rows → AlignedBurst s reference samples vectors work₀ work (record { residuals = sums; rows = rows })
  unfolding aligned_vectors vector_list vector_length residual_sums rows_summed
  aligning-done {k} {vectors} long zeros e w =
      record {
        found =
            write_done w.writing (omega (arith, ap (λ n. n * frame_parts s) e))
            ∙ written_all (pos 0) vectors₀ (word_of s (field_of s reference samples)) (vector_length s) long;
        sums_are = w.filled.is ∙ ap₂ (λ n l. tab n (sum_of s reference samples) ++ drop n l) e zeros ∙ ap (λ l. tab (s.count - 1) (sum_of s reference samples) ++ l) (drop-zeros (s.count - 1) 7);
        rows_are = sum_done w.counted (omega arith);
        same = w.same;
      }
