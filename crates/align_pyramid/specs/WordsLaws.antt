-- Laws of images in the work area.
use Rattle.align_pyramid.specs.Prelude.{sym, ap, ap₂, subst, ◌∙◌, List, ℕ, arith, ℤ, pos, nat_abs, Image, inside, read}
use Rattle.std.proofs.Common.{add_assoc, length-take-le, get_or-take}
use Rattle.std.specs.Prelude.{length, take, drop, ◌≡◌, ◌++◌, ◌+◌, ◌-◌, ◌*◌, ◌≤◌, ◌<◌}
use Rattle.std.proofs.Math.ListN.{get_or, get_or-append}
use Rattle.std.proofs.Math.Seq.{length_paste_head}
use Rattle.geometry.specs.ReadLaws.{cell_below, inside-below}
use Rattle.sequences.specs.Tab.{tab}
use Rattle.sequences.specs.TabLaws.{length-tab}
use Rattle.sequences.specs.Place.{row_room, place-row, place-column}
use Rattle.sequences.specs.Write.{written, Writing, written_in, written-before, written_after, written-length}
use Rattle.align_pyramid.specs.Halving.HalvingLaws.{halved-agree}
use Rattle.align_pyramid.specs.declared.images.Raster.{Raster}
use Rattle.align_pyramid.specs.Words.{word_at, image_at, end_of, image_in, read_in, halved_in, word_of, laid, Holds, Row, Source}

-- l has d's length and its first n words
pub record Kept (d : List ℤ) (n : ℕ) (l : List ℤ) : Type 0 where
  pub same : length l ≡ length d
  pub kept : (k : ℕ) → k < n → get_or l k (pos 0) ≡ get_or d k (pos 0)

-- a row of an image
pub row-held : {words : List ℤ} {r : Raster} (row : ℕ) → Source words r → row < r.height → Row words (r.from + row * r.width) r.width
unfolding image_at
row-held {r = r} row s k =
    let h = s.holds in
    record {
      room = omega (arith, h.room, row_room row r.height r.width k);
      held = λ column l.
          record {
            here = omega (arith, h.room, cell_below row column r.height r.width k l);
            is = h.is row column k l;
            most = h.most row column k l;
          };
    }

-- a part of a row
pub row-part : {words : List ℤ} {at m : ℕ} → Row words at m → (k n : ℕ) → k + n ≤ m → Row words (at + k) n
row-part {words} {at} {m} r k n h =
    record { room = omega (arith, r.room); held = λ j l. rw (add_assoc at k j) (r.held (k + j) (omega arith)) }

-- the image that a part holds is the one that is read there
pub own-image : {words : List ℤ} {at height width : ℕ} {image : Image} → Holds words at height width image → (row column : ℕ) → row < height → column < width
    → image_at words at width row column ≡ image row column
unfolding image_at word_at
own-image h row column a b = ap nat_abs (h.is row column a b)

pub holds-own : {words : List ℤ} {at height width : ℕ} {image : Image} → Holds words at height width image → Holds words at height width (image_at words at width)
holds-own h =
    record {
      room = h.room;
      is = λ row column a b. h.is row column a b ∙ ap pos (sym (own-image h row column a b));
      most = λ row column a b. omega (arith, own-image h row column a b, h.most row column a b);
    }

pub holds_source : {words : List ℤ} {at height width : ℕ} {image : Image} → 0 < height → 0 < width → height ≤ 4096 → width ≤ 4096
    → Holds words at height width image → Source words (record { from = at; height = height; width = width })
holds_source a b c d h = record { high = a; wide = b; high_small = c; wide_small = d; holds = holds-own h }

-- also where it is read outside
pub own_read : {words : List ℤ} {at height width : ℕ} {image : Image} → 0 < height → 0 < width → Holds words at height width image
    → (row column : ℤ) → read height width (image_at words at width) row column ≡ read height width image row column
unfolding read
own_read {height = height} {width = width} a b h row column =
    own-image h (inside height row) (inside width column) (inside-below height row a) (inside-below width column b)

-- stores from a place on keep what stands before it
pub writing-kept : {d l : List ℤ} {at n j : ℕ} {f : ℕ → ℤ} → Writing d at f n j l → Kept d at l
writing-kept {d} {l} {at} {n} {j} {f} w =
    record {
      same = w.same;
      kept = λ k h.
          ap (λ (x : List ℤ). get_or x k (pos 0)) w.is
          ∙ get_or-append (take at d ++ take j (tab n f)) (drop (at + j) d) (pos 0) k
          (omega (arith, length_paste_head d at (tab n f) j (omega arith) (omega (arith, length-tab f n))))
          ∙ get_or-append (take at d) (take j (tab n f)) (pos 0) k (omega (arith, length-take-le at d (omega arith)))
          ∙ get_or-take at d k (pos 0) h;
    }

-- what stands before stays the same image
module _ {d l : List ℤ} {n : ℕ} (k : Kept d n l) (from height width : ℕ) (before : from + height * width ≤ n) where
  pub kept-image : (row column : ℕ) → row < height → column < width → image_at l from width row column ≡ image_at d from width row column
  unfolding image_at word_at
  kept-image row column h m = ap nat_abs (k.kept (from + row * width + column) (omega (arith, cell_below row column height width h m)))

  pub kept-holds : {image : Image} → Holds d from height width image → Holds l from height width image
  kept-holds {image} h =
      record {
        room = omega arith;
        is = λ row column a b. k.kept (from + row * width + column) (omega (arith, cell_below row column height width a b)) ∙ h.is row column a b;
        most = h.most;
      }

-- also where it is read outside, and halved
module _ {d l : List ℤ} {n : ℕ} (k : Kept d n l) (r : Raster) (before : end_of r ≤ n) (s : Source d r) where
  same : (row column : ℕ) → row < r.height → column < r.width → image_in l r row column ≡ image_in d r row column
  same = kept-image k r.from r.height r.width before

  pub kept-source : Source l r
  kept-source = holds_source s.high s.wide s.high_small s.wide_small (kept-holds k r.from r.height r.width before s.holds)

  pub kept_read : (row column : ℤ) → read_in l r row column ≡ read_in d r row column
  unfolding read
  kept_read row column = same (inside r.height row) (inside r.width column) (inside-below r.height row s.high) (inside-below r.width column s.wide)

  pub kept_halved : (row column : ℕ) → halved_in l r row column ≡ halved_in d r row column
  kept_halved = halved-agree r.height r.width s.high s.wide (image_in l r) (image_in d r) same

-- what an image that is laid leaves as it was, and what then stands there
module _ (d : List ℤ) (at height width : ℕ) (image : Image) (room : at + height * width ≤ length d) where
  pub laid_kept : Kept d at (laid d at height width image)
  unfolding laid
  laid_kept =
      record {
        same = written-length d at (word_of image width) (height * width) (pos 0) room;
        kept = written-before d at (word_of image width) (height * width) (pos 0) room;
      }

  pub laid-after : (k : ℕ) → at + height * width ≤ k → get_or (laid d at height width image) k (pos 0) ≡ get_or d k (pos 0)
  unfolding laid
  laid-after k h =
      subst (λ i. get_or (written d at (word_of image width) (height * width)) i (pos 0) ≡ get_or d i (pos 0)) (omega arith)
      (written_after d at (word_of image width) (height * width) (pos 0) room (k - (at + height * width)))

  pub laid-holds : ((row column : ℕ) → row < height → column < width → image row column ≤ 16380) → Holds (laid d at height width image) at height width image
  unfolding laid
  laid-holds most =
      record {
        room = omega (arith, written-length d at (word_of image width) (height * width) (pos 0) room);
        is = λ row column h k.
            ap (λ i. get_or (written d at (word_of image width) (height * width)) i (pos 0)) (omega arith)
            ∙ written_in d at (word_of image width) (height * width) (pos 0) room (row * width + column) (cell_below row column height width h k)
            ∙ ap₂ (λ r c. pos (image r c)) (place-row row column width k) (place-column row column width k);
        most = most;
      }

pub holds_agree : {words : List ℤ} {at height width : ℕ} {f g : Image} → ((row column : ℕ) → row < height → column < width → f row column ≡ g row column)
    → Holds words at height width f → Holds words at height width g
holds_agree e h =
    record {
      room = h.room;
      is = λ row column a b. h.is row column a b ∙ ap pos (e row column a b);
      most = λ row column a b. omega (arith, e row column a b, h.most row column a b);
    }
