-- Level 0 laid, then halved down, is the pyramid.
use Rattle.std.specs.Prelude.{◌≡◌, ◌+◌, ◌*◌, ◌/◌, ◌≤◌, ◌<◌}
use Rattle.align_pyramid.specs.Prelude.{◌∙◌, List, ℕ, arith, length, ℤ, Shape, Image, sample_at, level0, level_size, bayer_sum, Frame}
use Rattle.align_pyramid.specs.Pyramid.{image0}
use Rattle.align_pyramid.specs.Bayer.BayerLaws.{bayer-most}
use Rattle.align_pyramid.specs.declared.images.Raster.{Raster}
use Rattle.align_pyramid.specs.Words.{image_in, laid, Holds}
use Rattle.align_pyramid.specs.WordsLaws.{Kept, own-image, holds_source, holds_agree, laid_kept, laid-after, laid-holds}
use Rattle.align_pyramid.specs.Chain.{words_before, halves, Room, Halvings}
use Rattle.align_pyramid.specs.ChainLaws.{chain-agree, words-first, words-rise}
use Rattle.align_pyramid.specs.Layout.{offset, pyramid_length, Built}
use Rattle.align_pyramid.specs.LayoutLaws.{size1, size3, size5, chain0, chain1, chain3, chain5}

-- m is d with an image laid that can be halved five times
pub record Begun (r : Raster) (image : Image) (d m : List ℤ) : Type 0 where
  pub high : 32 ≤ r.height
  pub wide : 32 ≤ r.width
  pub high_small : r.height ≤ 4096
  pub wide_small : r.width ≤ 4096
  pub most : (row column : ℕ) → row < r.height → column < r.width → image row column ≤ 16380
  pub room : r.from + words_before r.height r.width 6 ≤ length d
  pub laying : m ≡ laid d r.from r.height r.width image

module _ {r : Raster} {image : Image} {d m : List ℤ} (is : Begun r image d m) where
  place : r.from + r.height * r.width ≤ length d
  place = omega (arith, is.room, words-first r.height r.width, words-rise r.height r.width 1 6 (omega arith))

  kept : Kept d r.from m
  kept = rw is.laying (laid_kept d r.from r.height r.width image place)

  first : Holds m r.from r.height r.width image
  first = rw is.laying (laid-holds d r.from r.height r.width image place is.most)

  pub begun-room : Room m r
  begun-room =
      record {
        source = holds_source (omega (arith, is.high)) (omega (arith, is.wide)) is.high_small is.wide_small first;
        high = is.high;
        wide = is.wide;
        room = omega (arith, kept.same, is.room);
      }

  pub begun-halvings : {l : List ℤ} → Halvings r (image_in m r) m 5 l → Halvings r image d 5 l
  begun-halvings h =
      record {
        count = h.count;
        same = h.same ∙ kept.same;
        holds = λ k b. holds_agree (chain-agree r.height r.width _ _ is.high is.wide (own-image first) k b) (h.holds k b);
        before = λ i b. h.before i b ∙ kept.kept i b;
        after = λ i b.
            h.after i b ∙ rw is.laying (laid-after d r.from r.height r.width image place i (omega (arith, words-first r.height r.width, words-rise r.height r.width 1 6 (omega arith))));
      }

-- level 0 of the pyramid from a place on
abbrev pub finest : Shape → (at : ℕ) → Raster
finest shape at = record { from = at; height = level_size level0 shape.height; width = level_size level0 shape.width }

-- it is part of the pyramid
pub squares-fit : (shape : Shape) → shape.height / 2 * (shape.width / 2) ≤ pyramid_length shape
unfolding level_size offset
squares-fit shape =
    let high = shape.height / 2 in
    let wide = shape.width / 2 in
    omega (arith, words-first high wide, words-rise high wide 1 6 (omega arith))

-- level 0 of a frame is such an image
pub begun : {shape : Shape} {frame at : ℕ} {samples : List ℕ} {d m : List ℤ} → Frame shape frame samples → at + pyramid_length shape ≤ length d
    → m ≡ laid d at (shape.height / 2) (shape.width / 2) (bayer_sum (sample_at shape samples frame))
    → Begun (finest shape at) (image0 shape (sample_at shape samples frame)) d m
unfolding level_size offset image0
begun {shape} {frame} {at} {samples} f room laying =
    let ok = f.sampled.allowed in
    record {
      high = omega (arith, ok.high.least);
      wide = omega (arith, ok.wide.least);
      high_small = omega (arith, ok.high.most);
      wide_small = omega (arith, ok.wide.most);
      most = bayer-most 4095 (shape.height / 2) (shape.width / 2) (sample_at shape samples frame) (λ row column h k. f.most row column (omega arith) (omega arith));
      room = room;
      laying = laying;
    }

-- the images 0, 1, 3 and 5 are the levels
pub built : {shape : Shape} {frame : Image} {at : ℕ} {d l : List ℤ} → Halvings (finest shape at) (image0 shape frame) d 5 l
    → Built shape frame at d l
unfolding offset halves
built {shape} {frame} h =
    let high = shape.height in
    let wide = shape.width in
    record {
      same = h.same;
      levels =
          record {
            holds0 = rw (← chain0 shape frame) (h.holds 0 (omega arith));
            holds1 = rw (← size1 high, ← size1 wide, ← chain1 shape frame) (h.holds 1 (omega arith));
            holds2 = rw (← size3 high, ← size3 wide, ← chain3 shape frame) (h.holds 3 (omega arith));
            holds3 = rw (← size5 high, ← size5 wide, ← chain5 shape frame) (h.holds 5 (omega arith));
          };
      before = h.before;
      after = h.after;
    }
