-- One frame aligned by itself: its vectors are its part of the burst's.
use Rattle.std.specs.Prelude.{◌≡◌, length, take, drop, ◌+◌, ◌-◌, ◌*◌, ◌<◌}
use Rattle.std.proofs.Math.Path.{sym, subst}
use Rattle.std.proofs.Common.{◌∙◌, length-drop, length-take-le}
use Rattle.align_burst.specs.Prelude.{List, ℕ, arith, ℤ, pos, tab, Shape, vector_length, sample_at, tile_columns, frame_parts, VectorField, other_frame, word, word_of, vector_list, parts_of, Sums}
use Rattle.std.proofs.Math.Seq.{get_or-take, get_or-drop, ext_get_or}
use Rattle.sequences.specs.TabLaws.{length-tab, get_d-tab}
use Rattle.sequences.specs.Write.{written_all}
use Rattle.geometry.specs.VectorLaws.{word-of}
use Rattle.align_burst.specs.Aligned.{field_of, sum_of, aligned_vectors}
use Rattle.align_burst.specs.Burst.{OneAligned, AlignedFrame}
use Rattle.align_burst.specs.BurstLaws.{place-room}

module _ (s : Shape) (f : ℕ → VectorField) (k : ℕ) (h : k < s.count - 1) where
  abbrev part_of : List ℤ
  part_of = take (frame_parts s) (drop (k * frame_parts s) (tab (vector_length s) (word_of s f)))

  part-long : length part_of ≡ frame_parts s
  part-long =
      length-take-le (frame_parts s) (drop (k * frame_parts s) (tab (vector_length s) (word_of s f)))
      (omega (arith, length-drop (k * frame_parts s) (tab (vector_length s) (word_of s f)), length-tab (word_of s f) (vector_length s), place-room s k h))

  -- the k-th frame's part of the list has the words of its field
  pub parts_are : parts_of (frame_parts s) (vector_list s f) k ≡ tab (frame_parts s) (word (tile_columns s) (f k))
  unfolding parts_of vector_list
  parts_are =
      ext_get_or (pos 0) part_of (tab (frame_parts s) (word (tile_columns s) (f k))) (part-long ∙ sym (length-tab (word (tile_columns s) (f k)) (frame_parts s)))
      (λ i b.
      let l : i < frame_parts s = omega (arith, part-long) in
      get_or-take (frame_parts s) (drop (k * frame_parts s) (tab (vector_length s) (word_of s f))) i (pos 0) l
      ∙ get_or-drop (k * frame_parts s) (tab (vector_length s) (word_of s f)) i (pos 0)
      ∙ get_d-tab (word_of s f) (pos 0) (vector_length s) (k * frame_parts s + i) (omega (arith, place-room s k h))
      ∙ word-of s f k i l
      ∙ sym (get_d-tab (word (tile_columns s) (f k)) (pos 0) (frame_parts s) i l))

module _ {s : Shape} {reference other frame : ℕ} {samples : List ℕ} {vectors vectors' work work' : List ℤ} {r : Sums} where
  pub frame-aligned : other < s.count - 1 → length vectors ≡ frame_parts s → frame ≡ other_frame reference other →
      OneAligned s (sample_at s samples reference) (sample_at s samples frame) vectors 0 vectors' work work' r → AlignedFrame s reference other samples vectors' work work' r
  unfolding field_of sum_of aligned_vectors
  frame-aligned below long is b =
      let a : OneAligned s (sample_at s samples reference) (sample_at s samples (other_frame reference other)) vectors 0 vectors' work work' r =
      subst (λ f. OneAligned s (sample_at s samples reference) (sample_at s samples f) vectors 0 vectors' work work' r) is b in
      record {
        found = a.vectors ∙ written_all (pos 0) vectors _ (frame_parts s) long ∙ sym (parts_are s (field_of s reference samples) other below);
        sum_is = a.residual_is;
        rows_are = a.rows_are;
        same = a.same;
      }
