-- A loop that halves the image at hand five times, each into the words after it: its invariant, how it starts, goes on and ends.
use Rattle.std.specs.Prelude.{◌≡◌, ◌+◌, ◌*◌, ◌/◌, ◌≤◌, ◌<◌}
use Rattle.align_pyramid.specs.Prelude.{refl, ap, ap₂, ◌∙◌, List, ℕ, suc, arith, length, get_or, ℤ, pos, Image}
use mathlib.Core.Logic.{⊎_elim}
use native.Mathlib.Nat.{add-zero, eq-or-lt_of_le, le_refl}
use native.Mathlib.Numerals.{add-one}
use Rattle.align_pyramid.specs.Halving.HalvingLaws.{halved-agree, halved-most}
use Rattle.align_pyramid.specs.declared.images.Raster.{Raster}
use Rattle.align_pyramid.specs.Words.{image_in, halved_in, laid, Source}
use Rattle.align_pyramid.specs.WordsLaws.{Kept, own-image, holds_source, holds_agree, kept-holds, laid_kept, laid-after, laid-holds}
use Rattle.align_pyramid.specs.Chain.{halves, words_before, chain, HoldsImage, Room, Halvings}
use Rattle.align_pyramid.specs.ChainLaws.{size_most, size-some, words-next, words-rise}

-- l is d with the images 1 .. k after image 0, and the last of them stands at `from` with the height h and the width w
pub record Halving (r : Raster) (image : Image) (d : List ℤ) (k : ℕ) (l : List ℤ) (from h w : ℕ) : Type 0 where
  pub place : from ≡ r.from + words_before r.height r.width k
  pub high : h ≡ halves r.height k
  pub wide : w ≡ halves r.width k
  pub done : Halvings r image d k l

-- where image number k stands
abbrev numbered : Raster → ℕ → Raster
numbered r k = record { from = r.from + words_before r.height r.width k; height = halves r.height k; width = halves r.width k }

-- the halving of the one that stands in l
unfoldable next_image : Raster → ℕ → List ℤ → Image
next_image r k l = halved_in l (numbered r k)

rename : {from h w p h' w' q : ℕ} (l : List ℤ) → from ≡ p → h ≡ h' → w ≡ w' → from + h * w ≡ q
    → laid l (from + h * w) (h / 2) (w / 2) (halved_in l (record { from = from; height = h; width = w })) ≡ laid l q (h' / 2) (w' / 2) (halved_in l (record { from = p; height = h'; width = w' }))
rename {from} {h} {w} l a b c d = ap (λ t. laid l t (h / 2) (w / 2) (halved_in l (record { from = from; height = h; width = w }))) d ∙ rw (a, b, c)

module _ {r : Raster} {image : Image} {d : List ℤ} {k : ℕ} {l : List ℤ} {from h w : ℕ} (fits : Room d r) (b : Halving r image d k l from h w) where
  last : HoldsImage r image l k
  last = b.done.holds k (le_refl k)

  here : Source l (numbered r k)
  here =
      holds_source (size-some r.height k fits.high b.done.count) (size-some r.width k fits.wide b.done.count)
      (omega (arith, fits.source.high_small, size_most r.height k)) (omega (arith, fits.source.wide_small, size_most r.width k)) last

  pub halving-source : Source l (record { from = from; height = h; width = w })
  halving-source = rw (b.place, b.high, b.wide) here

  next : from + h * w ≡ (numbered r (suc k)).from
  next = omega (arith, b.place, ap₂ ◌*◌ b.high b.wide, words-next r.height r.width k)

  module _ (less : k < 5) where
    room : (numbered r (suc k)).from + halves r.height (suc k) * halves r.width (suc k) ≤ length l
    room = omega (arith, words-next r.height r.width (suc k), words-rise r.height r.width (suc (suc k)) 6 (omega arith), fits.room, b.done.same)

    pub halving-room : from + h * w + h / 2 * (w / 2) ≤ length l
    unfolding halves
    halving-room = omega (arith, next, ap₂ (λ x y. x / 2 * (y / 2)) b.high b.wide, room)

    -- the next image, its place and size by number
    renamed : laid l (from + h * w) (h / 2) (w / 2) (halved_in l (record { from = from; height = h; width = w }))
        ≡ laid l (numbered r (suc k)).from (halves r.height (suc k)) (halves r.width (suc k)) (next_image r k l)
    unfolding halves next_image
    renamed = rename l b.place b.high b.wide next

    module _ {l' : List ℤ} (e : l' ≡ laid l (from + h * w) (h / 2) (w / 2) (halved_in l (record { from = from; height = h; width = w }))) where
      kept : Kept l (numbered r (suc k)).from l'
      kept = rw (e ∙ renamed) (laid_kept l _ _ _ (next_image r k l) room)

      after : (i : ℕ) → (numbered r (suc (suc k))).from ≤ i → get_or l' i (pos 0) ≡ get_or l i (pos 0)
      after i m = rw (e ∙ renamed) (laid-after l _ _ _ (next_image r k l) room i (omega (arith, words-next r.height r.width (suc k))))

      agrees : (row column : ℕ) → next_image r k l row column ≡ chain r.height r.width image (suc k) row column
      unfolding next_image chain
      agrees = halved-agree _ _ here.high here.wide _ _ (own-image last)

      small : (row column : ℕ) → next_image r k l row column ≤ 16380
      unfolding next_image
      small = halved-most _ _ here.high here.wide 16380 _ here.holds.most

      newest : HoldsImage r image l' (suc k)
      newest =
          rw (e ∙ renamed)
          (holds_agree (λ row column x y. agrees row column)
          (laid-holds l _ _ _ (next_image r k l) room (λ row column x y. small row column)))

      all : (j : ℕ) → j ≤ suc k → HoldsImage r image l' j
      all j m =
          ⊎_elim (λ (q : j ≡ suc k). rw q newest)
          (λ (q : j < suc k).
          kept-holds kept _ _ _ (omega (arith, words-next r.height r.width j, words-rise r.height r.width (suc j) (suc k) (omega arith))) (b.done.holds j (omega arith)))
          (eq-or-lt_of_le m)

      pub halving-turn : Halving r image d (k + 1) l' (from + h * w) (h / 2) (w / 2)
      unfolding halves
      halving-turn =
          rw (add-one k)
          (record {
            place = next;
            high = ap (λ x. x / 2) b.high;
            wide = ap (λ x. x / 2) b.wide;
            done =
                record {
                  count = omega arith;
                  same = kept.same ∙ b.done.same;
                  holds = all;
                  before = λ i m. kept.kept i (omega arith) ∙ b.done.before i m;
                  after = λ i m. after i m ∙ b.done.after i (omega (arith, words-rise r.height r.width (suc k) (suc (suc k)) (omega arith)));
                };
          })

pub halving-start : {r : Raster} {d : List ℤ} → Room d r → Halving r (image_in d r) d 0 d r.from r.height r.width
unfolding halves words_before chain
halving-start {r} fits =
    record {
      place = omega arith;
      high = refl;
      wide = refl;
      done =
          record {
            count = omega arith;
            same = refl;
            holds = λ j m. let none : j ≡ 0 = omega arith in rw (none, add-zero r.from) fits.source.holds;
            before = λ i m. refl;
            after = λ i m. refl;
          };
    }
