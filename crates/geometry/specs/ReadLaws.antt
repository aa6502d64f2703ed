-- What readers may lean on: a sample's place is among the samples, and an index read outside is one inside.
use Rattle.algebra.specs.Prelude.{ap, ◌∙◌, arith, ℤ, pos, negsuc}
use Rattle.std.specs.Prelude.{ℕ, ◌+◌, ◌-◌, ◌*◌, ◌/◌, ◌%◌, ◌≤◌, ◌<◌, min, ◌≡◌}
use Rattle.std.proofs.Common.{le_trans, suc-mul, mod-lt, mod-eq_of_lt}
use Rattle.std.proofs.Math.Nat.{mul-le-mul_right, add-mul, mul_assoc, mul_comm}
use Rattle.geometry.specs.declared.Shape.{Shape}
use Rattle.geometry.specs.Shape.{row_stride, frame_stride, sample_length}
use Rattle.geometry.specs.Fits.{AllowedSize}
use Rattle.geometry.specs.Read.{sample_index, mirrored, inside}

-- row r and column c of m rows of n
pub cell_below : (r c m n : ℕ) → r < m → c < n → r * n + c < m * n
cell_below r c m n hr hc = le_trans (omega (arith, suc-mul r n)) (mul-le-mul_right n hr)

module _ (s : Shape) (frame : ℕ) where
  -- by frame first
  pub index-frame : (row column : ℕ) → sample_index s frame row column ≡ frame * frame_stride s + (row * row_stride s + column)
  unfolding sample_index
  index-frame row column = omega (arith, add-mul (frame * s.height) row (row_stride s), mul_assoc frame s.height (row_stride s), mul_comm (row_stride s) s.height)

  -- a frame lies among the samples, and so does each of its samples
  pub frame-room : frame < s.count → frame * frame_stride s + frame_stride s ≤ sample_length s
  unfolding sample_length
  frame-room h = omega (arith, add-mul frame 1 (frame_stride s), mul-le-mul_right {m = frame + 1} {n = s.count} (frame_stride s) (omega arith))

  pub index_below : (row column : ℕ) → frame < s.count → row < s.height → column < row_stride s → sample_index s frame row column < sample_length s
  index_below row column f r c =
      omega (arith, index-frame row column, frame-room f, cell_below row column s.height (row_stride s) r c, mul_comm (row_stride s) s.height)

-- in the first period no remainder is taken
pub first-period : (size k : ℕ) → k < 2 * size → mirrored size (k % (2 * size)) ≡ mirrored size k
first-period size k h = ap (mirrored size) (mod-eq_of_lt h)

mirrored-below : (size k : ℕ) → 0 < size → mirrored size (k % (2 * size)) < size
unfolding mirrored
mirrored-below size k h =
    let rest : k % (2 * size) < 2 * size = mod-lt k (omega arith) in
    omega arith

pub inside-below : (size : ℕ) (z : ℤ) → 0 < size → inside size z < size
unfolding inside
inside-below size (pos k) h = mirrored-below size k h
inside-below size (negsuc k) h = mirrored-below size k h

pub inside-same : (size k : ℕ) → k < size → inside size (pos k) ≡ k
unfolding inside mirrored
inside-same size k h = first-period size k (omega arith) ∙ omega arith

-- one place outside, the mirror reads the nearest edge
pub inside-before : (size : ℕ) → 0 < size → inside size (negsuc 0) ≡ 0
unfolding inside mirrored
inside-before size h = first-period size 0 (omega arith) ∙ omega arith

pub inside-edge : (size k : ℕ) → 0 < size → k ≤ size → inside size (pos k) ≡ min k (size - 1)
unfolding inside mirrored
inside-edge size k h l = first-period size k (omega arith) ∙ omega arith

-- a plane's index, read anywhere, is one of the frame's
pub plane-inside : {size : ℕ} → AllowedSize size → (parity : ℕ) (z : ℤ) → parity < 2 → 2 * inside (size / 2) z + parity < size
plane-inside {size} ok parity z h = omega (arith, ok.least, ok.whole, inside-below (size / 2) z (omega (arith, ok.least)))
