-- Where the pyramids of the reference and of another frame stand, the levels' pairs of images are those of the two frames.
use Rattle.std.specs.Prelude.{◌≡◌, ◌≤◌, ◌<◌}
use Rattle.std.proofs.Math.Path.{ap₂, fun_ext}
use Rattle.align_burst.specs.Prelude.{List, ℕ, zero, suc, arith, ℤ, Shape, AllowedSize, Allowed, Image, level_size, pyramid_length, Levels, level_at, pair_in}
use Rattle.geometry.specs.Read.{read}
use Rattle.align_pyramid.specs.Words.{read_in, Holds, Source}
use Rattle.align_pyramid.specs.WordsLaws.{holds_source, own_read}
use Rattle.align_burst.specs.Frames.{level_image, pairs}
use Rattle.align_burst.specs.Sites.{raster_at, area_at, pairs_in, Standing}

-- a level of a pyramid by its number
level-held : {shape : Shape} {frame : Image} {at : ℕ} {words : List ℤ} → Levels shape frame at words → (k : ℕ) → let a = raster_at shape k at in Holds words a.from a.height a.width (level_image k shape frame)
unfolding level_size
level-held h zero = h.holds0
level-held h (suc zero) = h.holds1
level-held h (suc (suc zero)) = h.holds2
level-held h (suc (suc (suc k))) = h.holds3

size-some : {size : ℕ} → AllowedSize size → (side k : ℕ) → 0 < level_size (level_at side k) size
unfolding level_size
size-some ok side zero = omega arith
size-some ok side (suc zero) = omega arith
size-some ok side (suc (suc zero)) = omega arith
size-some ok side (suc (suc (suc k))) = omega arith

size_most : {size : ℕ} → AllowedSize size → (side k : ℕ) → level_size (level_at side k) size ≤ 4096
unfolding level_size
size_most ok side zero = omega arith
size_most ok side (suc zero) = omega arith
size_most ok side (suc (suc zero)) = omega arith
size_most ok side (suc (suc (suc k))) = omega arith

module _ {shape : Shape} {reference other : Image} {words : List ℤ} (ok : Allowed shape) (r : Levels shape reference 0 words) (o : Levels shape other (pyramid_length shape) words) where
  stands : {frame : Image} {at : ℕ} → Levels shape frame at words → (k : ℕ) → Source words (raster_at shape k at)
  stands h k = holds_source (size-some ok.high shape.side k) (size-some ok.wide shape.side k) (size_most ok.high shape.side k) (size_most ok.wide shape.side k) (level-held h k)

  reads : {frame : Image} {at : ℕ} → Levels shape frame at words → (k : ℕ) → let a = raster_at shape k at in read_in words a ≡ read a.height a.width (level_image k shape frame)
  reads h k = fun_ext (λ row. fun_ext (own_read (size-some ok.high shape.side k) (size-some ok.wide shape.side k) (level-held h k) row))

  pub frame-standing : Standing shape words
  unfolding area_at
  frame-standing = record { stored = λ k. record { reference = stands r k; other = stands o k } }

  pub frame-pairs : pairs_in shape words ≡ pairs shape reference other
  unfolding pairs_in pair_in area_at pairs
  frame-pairs =
      fun_ext
      (λ k.
      ap₂ (λ x y. record { height = level_size (level_at shape.side k) shape.height; width = level_size (level_at shape.side k) shape.width; reference = x; other = y })
      (reads r k) (reads o k))
