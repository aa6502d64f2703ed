-- How a loop over the rows of all frames, or over all vectors, decides refusal 11, or 12.
use Rattle.std.specs.Prelude.{◌≡◌, ◌||◌, ◌+◌, ◌*◌, ◌/◌, ◌≤◌, ◌<◌}
use Rattle.algebra.specs.Prelude.{refl, sym, ap, ◌∙◌, Bool, true, false, List, ℕ, zero, suc, arith, ltb, length, get_or, ℤ, pos, nat_abs}
use Rattle.std.proofs.Math.Path.{fun_ext}
use Rattle.std.proofs.Common.{add_assoc, mul-le-mul}
use Rattle.std.proofs.Math.Nat.{mul_assoc, mul_comm, suc-mul, mul-le-mul_right}
use Rattle.std.proofs.Math.Decide.{dec_lt}
use borrow.Author.Tests.{ltb-false, lt-ltb, le-ltb}
use Rattle.algebra.specs.Sums.{sum_n}
use Rattle.geometry.specs.declared.Shape.{Shape}
use Rattle.geometry.specs.Shape.{sample_length}
use Rattle.geometry.specs.Read.{sample_index, sample_at}
use Rattle.admit_value.specs.Bounds.{sample_refusal, vector_refusal}
use Rattle.geometry.specs.Fits.{Sampled, SamplesFit, ValuesFit, VectorsFit}
use Rattle.geometry.specs.ShapeLaws.{samples-most}
use Rattle.admit_value.specs.Excess.{excess, above, row_above}
use Rattle.refusals.specs.Numbers as no
use Rattle.refusals.specs.Tests.{refuse}
use Rattle.refusals.specs.TestLaws.{refuse-not}
use Rattle.refusals.specs.Some.{some}
use Rattle.refusals.specs.SomeLaws.{or-false, or-true, some_rows, one, one_of, none, not-one, Passed, pass-turns, pass-done, every}

-- the test over frame, row and column is one over all rows
flat : (s : Shape) (samples : List ℕ) → sample_refusal s samples ≡ refuse no.sample_value (some (s.count * s.height) (λ row. row_above samples (row * s.pitch) s.width))
unfolding above row_above sample_refusal sample_at sample_index
flat s samples = ap (refuse no.sample_value) (some_rows s.count s.height (λ row. row_above samples (row * s.pitch) s.width))

-- the test of n samples, as a sum that is 0 where each passes
above-sum : (n : ℕ) (f : ℕ → ℕ) → some n (λ k. ltb 4095 (f k)) ≡ ltb 0 (sum_n n (λ k. f k / 4096))
unfolding some sum_n
above-sum zero f = refl
above-sum (suc n) f = rw (above-sum n f) (more (sum_n n (λ k. f k / 4096)) (f n) (dec_lt 4095 (f n)))
  where
    more : (a x : ℕ) → Dec (4095 < x) → ltb 0 a || ltb 4095 x ≡ ltb 0 (a + x / 4096)
    more a x (yes p) = rw (lt-ltb 4095 x p, lt-ltb 0 (a + x / 4096) (omega arith), or-true)
    more a x (no p) = let none : a + x / 4096 ≡ a = omega arith in rw (le-ltb 4095 x (omega arith), or-false, none)

-- a row, 64 columns at a time
module _ (samples : List ℕ) (start width column : ℕ) (h : column + 64 ≤ width) where
  block : (e : Bool) → ltb 0 (excess samples (start + column)) ≡ e → some 64 (λ k. above samples start (column + k)) ≡ e
  unfolding above excess
  block e is =
      ap (some 64) (fun_ext (λ k. ap (λ n. ltb 4095 (get_or samples n 0)) (sym (add_assoc start column k))))
      ∙ above-sum 64 (λ k. get_or samples (start + column + k) 0)
      ∙ is

  pub block-above : 0 < excess samples (start + column) → row_above samples start width ≡ true
  unfolding row_above
  block-above l = one_of width (above samples start) column 64 h (block true (lt-ltb 0 (excess samples (start + column)) l))

  pub block-passed : excess samples (start + column) ≤ 0 → Passed (above samples start) width column → Passed (above samples start) width (column + 64)
  block-passed l p = pass-turns p 64 h (block false (le-ltb 0 (excess samples (start + column)) l))

pub row-passed : (samples : List ℕ) (start width : ℕ) {column : ℕ} → Passed (above samples start) width column → width ≤ column → row_above samples start width ≡ false
unfolding row_above
row-passed samples start width p l = pass-done p l

-- all rows
module _ (s : Shape) (samples : List ℕ) where
  -- the test of a row, by its number among those of all frames
  abbrev pub row_test : ℕ → Bool
  row_test row = row_above samples (row * s.pitch) s.width

  pub samples-refused : (row : ℕ) → row < s.count * s.height → row_test row ≡ true → no.sample_value ≡ sample_refusal s samples
  samples-refused row h e = rw (flat s samples, one (s.count * s.height) row_test row h e)

  pub samples-accepted : {row : ℕ} → Passed row_test (s.count * s.height) row → s.count * s.height ≤ row → 0 ≡ sample_refusal s samples
  samples-accepted p l = rw (flat s samples, pass-done p l)

module _ {s : Shape} {samples : List ℕ} (h : Sampled s samples) where
  -- there are few rows and words, and each row lies among them
  pub samples-small : length samples ≤ 142606336
  unfolding sample_length
  samples-small = omega (arith, h.long, samples-most h.allowed)

  pub rows-most : s.count * s.height ≤ 32768
  rows-most = mul-le-mul {n₁ = s.count} {m₁ = s.height} {n₂ = 8} {m₂ = 4096} h.allowed.few h.allowed.high.most

  pub row_inside : (row : ℕ) → row < s.count * s.height → row * s.pitch + s.width ≤ length samples
  unfolding sample_length
  row_inside row l =
      omega (arith, h.long, h.allowed.row_least, suc-mul row s.pitch, mul-le-mul_right {m = row + 1} {n = s.count * s.height} s.pitch (omega arith), mul_assoc s.count s.height s.pitch, mul_comm s.height s.pitch)

-- what it lets through
module _ (s : Shape) (samples : List ℕ) where
  abbrev over : (frame row column : ℕ) → Bool
  over frame row column = ltb 4095 (sample_at s samples frame row column)

  abbrev in_row : (frame row : ℕ) → Bool
  in_row frame row = some s.width (over frame row)

  abbrev in_frame : ℕ → Bool
  in_frame frame = some s.height (in_row frame)

  pub samples_fit : sample_refusal s samples ≡ 0 → SamplesFit s samples
  unfolding sample_refusal
  samples_fit e =
      let frames = none s.count in_frame (refuse-not no.sample_value (some s.count in_frame) tt e) in
      record {
        most = λ frame row column f r c. ltb-false 4095 (sample_at s samples frame row column) (none s.width (over frame row) (none s.height (in_row frame) (frames frame f) row r) column c);
      }

  -- and all that is small
  pub samples-pass : SamplesFit s samples → sample_refusal s samples ≡ 0
  unfolding sample_refusal
  samples-pass fit =
      rw (not-one s.count in_frame (λ frame f. not-one s.height (in_row frame) (λ row r. not-one s.width (over frame row) (λ column c. le-ltb 4095 (sample_at s samples frame row column) (fit.most frame row column f r c)))))

pub values-samples : {samples : List ℕ} (s : Shape) → ValuesFit samples → SamplesFit s samples
unfolding sample_at
values-samples s fit = record { most = λ frame row column f r c. fit.most (sample_index s frame row column) }

-- a vector part's test
unfoldable pub beyond : List ℤ → ℕ → Bool
beyond vectors k = ltb 172 (nat_abs (get_or vectors k (pos 0)))

module _ (vectors : List ℤ) where
  pub vectors-refused : (k : ℕ) → k < length vectors → beyond vectors k ≡ true → no.vector_part ≡ vector_refusal vectors
  unfolding beyond vector_refusal
  vectors-refused k l e = rw (one (length vectors) (beyond vectors) k l e)

  pub vectors-accepted : {i : ℕ} → Passed (beyond vectors) (length vectors) i → length vectors ≤ i → 0 ≡ vector_refusal vectors
  unfolding beyond vector_refusal
  vectors-accepted p l = rw (pass-done p l)

  pub vectors_fit : vector_refusal vectors ≡ 0 → VectorsFit vectors
  unfolding beyond vector_refusal
  vectors_fit e =
      let within = none (length vectors) (beyond vectors) (refuse-not no.vector_part (some (length vectors) (beyond vectors)) tt e) in
      record { most = every (λ z. nat_abs z ≤ 172) (pos 0) vectors (omega arith) (λ k l. ltb-false 172 (nat_abs (get_or vectors k (pos 0))) (within k l)) }
