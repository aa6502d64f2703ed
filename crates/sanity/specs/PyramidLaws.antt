-- Equal frames have equal pyramids, read anywhere.
use Rattle.std.specs.Prelude.{◌≡◌, ◌+◌, ◌*◌, ◌/◌, ◌≤◌, ◌<◌}
use Rattle.std.proofs.Common.{ap₂}
use Rattle.std.proofs.Math.Path.{fun_ext}
use Rattle.sanity.specs.Prelude.{ℕ, zero, suc, arith, ℤ, Shape, Allowed, Image, inside, read, level1, level2, level_size, level_at, level_image, pairs}
use Rattle.geometry.specs.ReadLaws.{inside-below}
use Rattle.align_pyramid.specs.Bayer.Bayer.{bayer_sum}
use Rattle.align_pyramid.specs.Halving.Halving.{halved}
use Rattle.align_pyramid.specs.Halving.HalvingLaws.{halved-agree}
use Rattle.align_pyramid.specs.Pyramid.{quartered, image0, image1, image2, image3}
use Rattle.sanity.specs.Frames.{Same}
use Rattle.sanity.specs.StillLaws.{Equal}

module _ (height width : ℕ) (high : 0 < height) (wide : 0 < width) (f g : Image) (same : Same height width f g) where
  read_same : (row column : ℤ) → read height width f row column ≡ read height width g row column
  unfolding read
  read_same row column = same.at (inside height row) (inside width column) (inside-below height row high) (inside-below width column wide)

  -- a halving agrees even outside
  halved-same : (h w : ℕ) → Same h w (halved height width f) (halved height width g)
  halved-same h w = record { at = λ row column a b. halved-agree height width high wide f g same.at row column }

quartered-same : (height width : ℕ) → 2 ≤ height → 2 ≤ width → (f g : Image) → Same height width f g → (h w : ℕ) → Same h w (quartered height width f) (quartered height width g)
unfolding quartered
quartered-same height width high wide f g same =
    halved-same (height / 2) (width / 2) (omega arith) (omega arith) _ _ (halved-same height width (omega arith) (omega arith) f g same (height / 2) (width / 2))

-- every level of an allowed size can be read, and levels 1 and 2 have a quarter
some : (side k size : ℕ) → 64 ≤ size → 0 < level_size (level_at side k) size
unfolding level_size
some side zero size h = omega arith
some side (suc zero) size h = omega arith
some side (suc (suc zero)) size h = omega arith
some side (suc (suc (suc k))) size h = omega arith

large : (size : ℕ) → 64 ≤ size → (2 ≤ level_size level1 size) × (2 ≤ level_size level2 size)
unfolding level_size
large size h = (omega arith, omega arith)

module _ (s : Shape) (ok : Allowed s) (f g : Image) (same : Same s.height s.width f g) where
  abbrev SameLevel : ℕ → Type 0
  SameLevel k = Same (level_size (level_at s.side k) s.height) (level_size (level_at s.side k) s.width) (level_image k s f) (level_image k s g)

  level0-same : SameLevel 0
  unfolding image0 bayer_sum level_size
  level0-same =
      record {
        at = λ row column h k.
            let a = same.at (2 * row) (2 * column) (omega arith) (omega arith) in
            let b = same.at (2 * row) (2 * column + 1) (omega arith) (omega arith) in
            let c = same.at (2 * row + 1) (2 * column) (omega arith) (omega arith) in
            let d = same.at (2 * row + 1) (2 * column + 1) (omega arith) (omega arith) in
            omega (arith, a, b, c, d);
      }

  level1-same : SameLevel 1
  unfolding image1 level_size
  level1-same = halved-same _ _ (some s.side 0 _ ok.high.least) (some s.side 0 _ ok.wide.least) _ _ level0-same _ _

  level2-same : SameLevel 2
  unfolding image2
  level2-same = quartered-same _ _ (large _ ok.high.least).0 (large _ ok.wide.least).0 _ _ level1-same _ _

  level3-same : SameLevel 3
  unfolding image3
  level3-same = quartered-same _ _ (large _ ok.high.least).1 (large _ ok.wide.least).1 _ _ level2-same _ _

  levels-same : (k : ℕ) → SameLevel k
  levels-same zero = level0-same
  levels-same (suc zero) = level1-same
  levels-same (suc (suc zero)) = level2-same
  levels-same (suc (suc (suc k))) = level3-same

  reads_same : (k : ℕ) (row column : ℤ) → read (level_size (level_at s.side k) s.height) (level_size (level_at s.side k) s.width) (level_image k s f) row column ≡ read (level_size (level_at s.side k) s.height) (level_size (level_at s.side k) s.width) (level_image k s g) row column
  reads_same k = read_same _ _ (some s.side k _ ok.high.least) (some s.side k _ ok.wide.least) (level_image k s f) (level_image k s g) (levels-same k)

  pub pairs-equal : (k : ℕ) → Equal (pairs s f g k)
  unfolding pairs
  pairs-equal k = record { at = reads_same k }

-- so what is compared depends on the frames inside alone
pub pairs-agree : (s : Shape) → Allowed s → (f f' g g' : Image) → Same s.height s.width f f' → Same s.height s.width g g' → pairs s f g ≡ pairs s f' g'
unfolding pairs
pairs-agree s ok f f' g g' p q =
    fun_ext (λ k. ap₂ (λ r o. record { height = level_size (level_at s.side k) s.height; width = level_size (level_at s.side k) s.width; reference = r; other = o })
    (fun_ext (λ row. fun_ext (λ column. reads_same s ok f f' p k row column)))
    (fun_ext (λ row. fun_ext (λ column. reads_same s ok g g' q k row column))))
