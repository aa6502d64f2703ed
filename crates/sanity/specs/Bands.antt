-- Try bands of the merged frame, one below the other: joined they are merge's output. And try one: it is refused as merge is, its own tests apart.
use Rattle.std.specs.Prelude.{◌≡◌, ◌++◌, ◌+◌, ◌*◌}
use Rattle.algebra.specs.Prelude.{sym, ap, ap₂, ◌∙◌, List, [], ℕ, arith, drop, length, ℤ}
use Rattle.std.proofs.Common.{add-mul, zero-mul, drop-drop}
use Rattle.std.proofs.Math.Nat.{mul_comm}
use Rattle.std.proofs.Math.ListN.{take-append-drop, drop_of_length-le}
use Rattle.sequences.specs.TabLaws.{length-tab}
use Rattle.refusals.specs.Numbers as no
use Rattle.sanity.specs.Prelude.{first, Shape, output_length, work_length, length_refusal, Noise, Tuning, scene_at, scene_of, word_at, merged, run_tests, merge_refusal, merge_of, Merged}
use Rattle.refusals.specs.AfterLaws.{result-made}
use Rattle.admit_length.specs.Order.{shape_tests, burst_tests, merge_lengths, merge_shape_tests}
use Rattle.admit_length.specs.Bands.{band_length, band_work_length, band_part_refusal, band_lengths, band_shape_tests}
use Rattle.admit_call.specs.Bands.{band_refusal}
use Rattle.stacker.specs.Bands.{band, Banded}

module _ (s : Shape) (reference : ℕ) (noise : Noise) (tuning : Tuning) (samples : List ℕ) (vectors : List ℤ) where
  -- accepted bands from row `top` to the frame's end, and their outputs joined
  pub data Covered : (top : ℕ) (joined : List ℕ) → Type 0 where
    end : Covered s.height []
    next : {top rows : ℕ} {output output' rest : List ℕ} {work work' : List ℤ} → Banded s reference noise tuning top rows samples vectors output output' work work' 0 → Covered (top + rows) rest → Covered top (output' ++ rest)

  abbrev frame : List ℕ
  frame = merged (scene_of (merge_of s reference noise tuning) samples vectors)

  frame-end : drop (s.height * s.width) frame ≡ []
  unfolding merged scene_at
  frame-end = drop_of_length-le frame {i = s.height * s.width} (omega (arith, length-tab (word_at (scene_of (merge_of s reference noise tuning) samples vectors)) (s.width * s.height), mul_comm s.height s.width))

  covered : {top : ℕ} {joined : List ℕ} → Covered top joined → joined ≡ drop (top * s.width) frame
  unfolding band
  covered end = sym frame-end
  covered (next {top} {rows} {output} b c) =
      let from = drop (top * s.width) frame in
      let below : drop ((top + rows) * s.width) frame ≡ drop (rows * s.width) from = ap (λ n. drop n frame) (add-mul top rows s.width) ∙ sym (drop-drop (rows * s.width) (top * s.width) frame) in
      ap₂ ◌++◌ (result-made _ output (band s.width top rows frame) (sym b.answer) b.result) (covered c ∙ below) ∙ take-append-drop (rows * s.width) from

  pub bands-as-merge : {joined output output' : List ℕ} {work work' : List ℤ} → Covered 0 joined → Merged s reference noise tuning samples vectors output output' work work' 0 → joined ≡ output'
  bands-as-merge {output = output} c m =
      covered c ∙ ap (λ n. drop n frame) (zero-mul s.width) ∙ sym (result-made _ output frame (sym m.answer) m.result)

  -- where 27, and the lengths of output and work area, are right for each, both answer the same number
  pub band-refused-alike : (top rows : ℕ) (output output₂ : List ℕ) (work work₂ : List ℤ) → band_part_refusal s top rows ≡ 0
      → length_refusal no.wrong_output_length (band_length s rows) (length output) ≡ 0 → length_refusal no.wrong_work_length (band_work_length s) (length work) ≡ 0
      → length_refusal no.wrong_output_length (output_length s) (length output₂) ≡ 0 → length_refusal no.wrong_work_length (work_length s) (length work₂) ≡ 0
      → band_refusal s reference noise tuning top rows samples vectors output work ≡ merge_refusal s reference noise tuning samples vectors output₂ work₂
  unfolding first shape_tests burst_tests merge_lengths merge_shape_tests band_lengths band_shape_tests run_tests merge_refusal band_refusal
  band-refused-alike top rows output output₂ work work₂ p a b c d = rw (p, a, b, c, d)
