-- A frame's words are its samples row by row, and frames of equal words are equal images.
use Rattle.sanity.specs.Prelude.{refl, sym, ap, ap₂, ◌∙◌, List, ℕ, zero, suc, arith, Shape, sample_length, output_length, Image, sample_index, sample_at, Sampled}
use Rattle.std.proofs.Common.{mod-lt, div-lt_iff_lt-mul, mul_comm, zero-mul}
use Rattle.std.proofs.Math.Nat.{div-add-mod', suc-mul, mul-le-mul_right}
use Rattle.std.specs.Prelude.{length, take, drop, replicate, ◌≡◌, ◌+◌, ◌*◌, ◌/◌, ◌%◌, ◌≤◌, ◌<◌}
use Rattle.std.proofs.Math.ListN.{get_or, length-drop}
use Rattle.std.proofs.Math.Seq.{ext_get_or, length-take-le, get_or-take, get_or-drop}
use Rattle.sequences.specs.TabLaws.{length-tab, get_d-tab}
use Rattle.sequences.specs.ClearLaws.{tab-const}
use Rattle.geometry.specs.ReadLaws.{cell_below}
use Rattle.sequences.specs.Place.{place-row, place-column}
use Rattle.sanity.specs.Frames.{image_words, frame_words, Same, Alike}

-- a word's row and column are inside
pub column-inside : (k width height : ℕ) → k < width * height → k % width < width
column-inside k zero height h = absurd (omega (arith, zero-mul height))
column-inside k (suc w) height h = mod-lt k (omega arith)

pub row_inside : (k width height : ℕ) → k < width * height → k / width < height
row_inside k zero height h = absurd (omega (arith, zero-mul height))
row_inside k (suc w) height h = (div-lt_iff_lt-mul {k = suc w} {x = k} {y = height} (omega arith)).1 (omega (arith, mul_comm (suc w) height))

-- the word at a row and a column
pub image-word : (height width : ℕ) (image : Image) (row column : ℕ) → row < height → column < width → get_or (image_words height width image) (row * width + column) 0 ≡ image row column
unfolding image_words
image-word height width image row column h k =
    get_d-tab (λ k. image (k / width) (k % width)) 0 (width * height) (row * width + column) (omega (arith, cell_below row column height width h k, mul_comm width height))
    ∙ ap₂ image (place-row row column width k) (place-column row column width k)

-- equal words, equal images
pub words_same : (height width : ℕ) (f g : Image) → image_words height width f ≡ image_words height width g → Same height width f g
words_same height width f g e =
    record { at = λ row column h k. sym (image-word height width f row column h k) ∙ ap (λ l. get_or l (row * width + column) 0) e ∙ image-word height width g row column h k }

pub frame-words : (s : Shape) (samples : List ℕ) (frame : ℕ) → frame_words s samples frame ≡ image_words s.height s.width (sample_at s samples frame)
unfolding frame_words
frame-words s samples frame = refl

-- frames of equal words are equal images
pub frames-same : (s : Shape) (samples samples' : List ℕ) (frame frame' : ℕ) → frame_words s samples frame ≡ frame_words s samples' frame' → Same s.height s.width (sample_at s samples frame) (sample_at s samples' frame')
unfolding frame_words
frames-same s samples samples' frame frame' e = words_same s.height s.width _ _ e

pub alike_same : {s : Shape} {reference : ℕ} {samples : List ℕ} → Alike s reference samples → (frame : ℕ) → frame < s.count →
    Same s.height s.width (sample_at s samples reference) (sample_at s samples frame)
alike_same {s} {reference} {samples} alike frame h = frames-same s samples samples reference frame (sym (alike.words frame h))

-- a frame whose words are all v
pub flat-same : (s : Shape) (samples : List ℕ) (frame v : ℕ) → frame_words s samples frame ≡ replicate (output_length s) v → Same s.height s.width (sample_at s samples frame) (λ row column. v)
unfolding output_length image_words frame_words
flat-same s samples frame v e = words_same s.height s.width _ _ (e ∙ sym (tab-const v (s.width * s.height)))

-- where rows have no spare words, a frame's words stand in the list as they are
module _ (s : Shape) (samples : List ℕ) (sampled : Sampled s samples) (packed : s.pitch ≡ s.width) (frame : ℕ) (below : frame < s.count) where
  abbrev part : List ℕ
  part = take (output_length s) (drop (frame * output_length s) samples)

  room : frame * output_length s + output_length s ≤ length samples
  unfolding output_length sample_length
  room =
      let all : s.count * (s.pitch * s.height) ≡ s.count * (s.width * s.height) = ap (λ n. s.count * (n * s.height)) packed in
      omega (arith, sampled.long, all, suc-mul frame (s.width * s.height), mul-le-mul_right (s.width * s.height) below)

  part-long : length part ≡ s.width * s.height
  unfolding output_length
  part-long = length-take-le (output_length s) (drop (frame * output_length s) samples) (omega (arith, room, length-drop (frame * output_length s) samples))

  word-at : (k : ℕ) → k < s.width * s.height → get_or part k 0 ≡ sample_at s samples frame (k / s.width) (k % s.width)
  unfolding output_length sample_at sample_index
  word-at k h =
      get_or-take (output_length s) (drop (frame * output_length s) samples) k 0 h
      ∙ get_or-drop (frame * output_length s) samples k 0
      ∙ ap (λ i. get_or samples i 0) place
    where
      place : frame * (s.width * s.height) + k ≡ (frame * s.height + k / s.width) * s.pitch + k % s.width
      place = rw packed (omega (arith, div-add-mod' k s.width))

  pub packed-words : frame_words s samples frame ≡ part
  unfolding frame_words image_words
  packed-words =
      ext_get_or 0 _ _ (length-tab _ (s.width * s.height) ∙ sym part-long)
      (λ k h. let inside : k < s.width * s.height = omega (arith, length-tab (λ k. sample_at s samples frame (k / s.width) (k % s.width)) (s.width * s.height)) in get_d-tab _ 0 (s.width * s.height) k inside ∙ sym (word-at k inside))
