-- What follows of the definition: halving reads inside the image only, and keeps its bound.
use Rattle.algebra.specs.Prelude.{sym, ap, ◌∙◌, arith, ℤ, pos}
use Rattle.std.specs.Prelude.{ℕ, zero, suc, ◌+◌, ◌-◌, ◌*◌, ◌/◌, ◌≤◌, ◌<◌, min, ◌≡◌, ◌-ℤ◌}
use Rattle.algebra.specs.Order.{zarith, sub-pn, min-pn}
use Rattle.geometry.specs.Read.{Image, inside, read}
use Rattle.geometry.specs.ReadLaws.{inside-below, inside-before, inside-edge}
use Rattle.align_pyramid.specs.Halving.Halving.{tap, weighted, halved}
use Rattle.align_pyramid.specs.Halving.Columns.{column_sum}

-- equal values at the four places, equal weighted sums
weighted-agree : (p : ℕ) (f g : ℤ → ℕ) → ((z : ℤ) → f z ≡ g z) → weighted p f ≡ weighted p g
unfolding weighted
weighted-agree p f g e =
    let a = e (tap p 0) in
    let b = e (tap p 1) in
    let c = e (tap p 2) in
    let d = e (tap p 3) in
    cc

weighted-most : (p b : ℕ) (f : ℤ → ℕ) → ((z : ℤ) → f z ≤ b) → weighted p f ≤ 8 * b
unfolding weighted
weighted-most p b f h = omega (arith, h (tap p 0), h (tap p 1), h (tap p 2), h (tap p 3))

module _ (height width : ℕ) (high : 0 < height) (wide : 0 < width) where
  -- an image's halving depends on the values inside it alone
  pub halved-agree : (f g : Image) → ((row column : ℕ) → row < height → column < width → f row column ≡ g row column)
      → (row column : ℕ) → halved height width f row column ≡ halved height width g row column
  unfolding halved read
  halved-agree f g e row column =
      ap (λ s. (s + 32) / 64)
      (weighted-agree row _ _
      (λ y. weighted-agree column _ _
      (λ x. e (inside height y) (inside width x) (inside-below height y high) (inside-below width x wide))))

  -- and is at most what these are
  pub halved-most : (b : ℕ) (image : Image) → ((row column : ℕ) → row < height → column < width → image row column ≤ b)
      → (row column : ℕ) → halved height width image row column ≤ b
  unfolding halved read
  halved-most b image h row column =
      omega (
        arith,
        weighted-most row (8 * b) _
            (λ y. weighted-most column b _
            (λ x. h (inside height y) (inside width x) (inside-below height y high) (inside-below width x wide))),
      )

  -- a column's weighted sum is at most eight times what these are
  pub column-most : (b : ℕ) (image : Image) → ((row column : ℕ) → row < height → column < width → image row column ≤ b)
      → (row column : ℕ) → column < width → column_sum height image row column ≤ 8 * b
  unfolding column_sum
  column-most b image h row column k = weighted-most row b _ (λ y. h (inside height y) column (inside-below height y high) k)

-- the halving by columns first
pub halved-columns : (height width : ℕ) (image : Image) (row column : ℕ)
    → (weighted column (λ x. column_sum height image row (inside width x)) + 32) / 64 ≡ halved height width image row column
unfolding halved read column_sum weighted
halved-columns height width image row column = omega arith

-- Which place is read at 2p−1..2p+2: the taps of a halving reach one place outside at most, where a mirror reads the nearest edge
pub inside-tap : (size p k : ℕ) → 0 < size → 2 * p + k ≤ size + 1 → inside size (tap p k) ≡ min (2 * p + k - 1) (size - 1)
unfolding tap
inside-tap size p k h most = at (2 * p + k) most
  where
    at : (q : ℕ) → q ≤ size + 1 → inside size (pos q -ℤ pos 1) ≡ min (q - 1) (size - 1)
    at zero l = inside-before size h ∙ omega arith
    at (suc q) l = let e : pos (suc q - 1) ≡ pos (suc q) -ℤ pos 1 = omega (zarith, sub-pn (pos (suc q)) (pos 1), min-pn (pos (suc q) -ℤ pos 1)) in ap (inside size) (sym e) ∙ inside-edge size (suc q - 1) h (omega arith)
