-- The frames aligned one by one, in whatever order, are the burst aligned.
use Rattle.std.specs.Prelude.{◌≡◌, ◌++◌, ◌-◌, ◌*◌, ◌<◌}
use Rattle.stacker.specs.Prelude.{refl, sym, ap, ap₂, ◌∙◌, List, ℕ, zero, suc, arith, length, take, drop, ℤ, tab, first, Shape, vector_length, work_length, length_refusal, shape_tests, burst_tests, align_lengths, align_shape_tests, field_of, sum_of, aligned_vectors, residual_sums, count_of, rows_summed, align_refusal, align_frame_refusal}
use Rattle.std.proofs.Common.{zero-mul, suc-mul, eq-eqb, take-add}
use Rattle.std.proofs.lemmas.Bool.{lt-leb}
use Rattle.std.proofs.Math.ListN.{replicate}
use Rattle.std.proofs.Math.Seq.{take-length}
use Rattle.algebra.specs.Sums.{sum_n}
use Rattle.algebra.specs.SumLaws.{sum_n-cong}
use Rattle.sequences.specs.TabLaws.{length-tab}
use Rattle.sequences.specs.Grid.{tab-ext}
use Rattle.refusals.specs.Numbers as no
use Rattle.refusals.specs.AfterLaws.{result-made}
use Rattle.geometry.specs.Tiles.{frame_parts}
use Rattle.geometry.specs.Vectors.{word_of, vector_list, parts_of}
use Rattle.admit_length.specs.OneFrame.{other_refusal, frame_work_length, align_frame_lengths, align_frame_shape_tests}
use Rattle.stacker.specs.declared.Alignment.{Alignment}
use Rattle.stacker.specs.declared.one_frame.FrameAlignment.{FrameAlignment}
use Rattle.stacker.specs.Calls.{answered, Aligned}
use Rattle.stacker.specs.OneFrame.{frame_answered, FrameAligned}
use Rattle.stacker.specs.Joined.{joined}

-- ---- lists of equal lengths, joined

joined-ext : {A : Type 0} (n : ℕ) (f g : ℕ → List A) → ((k : ℕ) → k < n → f k ≡ g k) → joined n f ≡ joined n g
unfolding joined
joined-ext zero f g h = refl
joined-ext (suc n) f g h = ap₂ (λ a b. a ++ b) (joined-ext n f g (λ k l. h k (omega arith))) (h n (omega arith))

joined-take : (n count : ℕ) (l : List ℤ) → joined n (parts_of count l) ≡ take (n * count) l
unfolding joined parts_of
joined-take zero count l = ap (λ m. take m l) (sym (zero-mul count))
joined-take (suc n) count l = ap (λ r. r ++ take count (drop (n * count) l)) (joined-take n count l) ∙ sym (take-add (n * count) count l) ∙ ap (λ m. take m l) (sym (suc-mul n count))

all-parts : (s : Shape) (reference : ℕ) (samples : List ℕ) → joined (s.count - 1) (parts_of (frame_parts s) (aligned_vectors s reference samples)) ≡ aligned_vectors s reference samples
unfolding aligned_vectors vector_list vector_length
all-parts s reference samples =
    let f = word_of s (field_of s reference samples) in
    let n = (s.count - 1) * frame_parts s in
    joined-take (s.count - 1) (frame_parts s) (tab n f) ∙ ap (λ m. take m (tab n f)) (sym (length-tab f n)) ∙ take-length (tab n f)

-- ---- what an accepted call leaves

module _ {s : Shape} {reference other : ℕ} {samples : List ℕ} {vectors vectors' work work' : List ℤ} {r : FrameAlignment} (c : FrameAligned s reference other samples vectors vectors' work work' r) (z : r.refusal ≡ 0) where
  frame-zero : align_frame_refusal s reference other samples vectors work ≡ 0
  unfolding frame_answered
  frame-zero = sym (ap (λ r. r.refusal) c.answer) ∙ z

  frame-vectors : vectors' ≡ parts_of (frame_parts s) (aligned_vectors s reference samples) other
  frame-vectors = result-made _ _ _ frame-zero c.found

  frame-residual : r.residual ≡ sum_of s reference samples other
  unfolding frame_answered
  frame-residual = result-made _ 0 _ frame-zero (ap (λ r. r.residual) c.answer)

  frame-rows : r.rows ≡ count_of s reference samples other
  unfolding frame_answered
  frame-rows = result-made _ 0 _ frame-zero (ap (λ r. r.rows) c.answer)

-- ---- the theorem

-- for each other frame the vectors that its call left and what it answered: joined in order they are the whole's
pub record Whole (s : Shape) (parts : ℕ → List ℤ) (answers : ℕ → FrameAlignment) (vectors : List ℤ) (r : Alignment) : Type 0 where
  pub vectors_are : vectors ≡ joined (s.count - 1) parts
  pub residuals_are : r.residuals ≡ tab (s.count - 1) (λ k. (answers k).residual) ++ replicate (7 - (s.count - 1)) 0
  pub rows_are : r.rows ≡ sum_n (s.count - 1) (λ k. (answers k).rows)

module _ {s : Shape} {reference : ℕ} {samples : List ℕ} {vectors vectors' work work' : List ℤ} {r : Alignment} {lent parts areas areas' : ℕ → List ℤ} {answers : ℕ → FrameAlignment} where
  pub frames-whole : Aligned s reference samples vectors vectors' work work' r → r.refusal ≡ 0 →
      ((k : ℕ) → k < s.count - 1 → FrameAligned s reference k samples (lent k) (parts k) (areas k) (areas' k) (answers k)) → ((k : ℕ) → k < s.count - 1 → (answers k).refusal ≡ 0) →
      Whole s parts answers vectors' r
  unfolding answered residual_sums rows_summed
  frames-whole c z calls zeros =
      let passed : align_refusal s reference samples vectors work ≡ 0 = sym (ap (λ r. r.refusal) c.answer) ∙ z in
      record {
        vectors_are = result-made _ vectors _ passed c.found ∙ sym (all-parts s reference samples) ∙ joined-ext (s.count - 1) _ parts (λ k h. sym (frame-vectors (calls k h) (zeros k h)));
        residuals_are = result-made _ _ _ passed (ap (λ r. r.residuals) c.answer) ∙ ap (λ l. l ++ replicate (7 - (s.count - 1)) 0) (tab-ext (s.count - 1) _ _ (λ k h. sym (frame-residual (calls k h) (zeros k h))));
        rows_are = result-made _ 0 _ passed (ap (λ r. r.rows) c.answer) ∙ sum_n-cong (s.count - 1) _ _ (λ k h. sym (frame-rows (calls k h) (zeros k h)));
      }

-- ---- the numbers

other-passes : (s : Shape) (other : ℕ) → other < s.count - 1 → other_refusal s other ≡ 0
unfolding other_refusal
other-passes s other h = rw (lt-leb (s.count - 1) other h)

long-passes : (number right long : ℕ) → long ≡ right → length_refusal number right long ≡ 0
unfolding length_refusal
long-passes number right long e = rw (eq-eqb long right e)

-- with vectors and work areas of the right lengths each frame is refused as the burst is
pub refused-alike : (s : Shape) (reference other : ℕ) (samples : List ℕ) (lent vectors area work : List ℤ) → other < s.count - 1 → length lent ≡ frame_parts s → length area ≡ frame_work_length s → length vectors ≡ vector_length s → length work ≡ work_length s →
    align_frame_refusal s reference other samples lent area ≡ align_refusal s reference samples vectors work
unfolding align_frame_refusal align_refusal align_frame_shape_tests align_shape_tests align_frame_lengths align_lengths burst_tests shape_tests first
refused-alike s reference other samples lent vectors area work below right room whole rooms =
    rw (
      other-passes s other below,
      long-passes no.wrong_vector_length (frame_parts s) (length lent) right,
      long-passes no.wrong_work_length (frame_work_length s) (length area) room,
      long-passes no.wrong_vector_length (vector_length s) (length vectors) whole,
      long-passes no.wrong_work_length (work_length s) (length work) rooms,
    )
