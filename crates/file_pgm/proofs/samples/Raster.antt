-- The loops over the blocks of a raster: 64 samples, which are 128 bytes.
use Rattle.std.specs.Prelude.{◌≡◌, ◌+◌, ◌*◌, ◌≤◌, ◌<◌}
use Rattle.std.proofs.Common.{zero-add, lt-ltb, le-ltb, length-drop}
use Rattle.algebra.specs.Prelude.{sym, ap, ◌∙◌, List, ℕ, arith, ltb, length, get_or, drop}
use Rattle.sequences.specs.Grid.{tab-of}
use Rattle.sequences.specs.Tab.{tab}
use Rattle.sequences.specs.Write.{Writing, written, write-part, write_done, written_all}
use Rattle.refusals.specs.Numbers as no
use Rattle.refusals.specs.Some.{some}
use Rattle.refusals.specs.SomeLaws.{one_of, Passed, pass-turns, pass-done}
use Rattle.file_pgm.specs.Samples.Samples.{some_above, above_refusal, samples_of}
use Rattle.file_pgm.specs.Samples.Blocks.{Bytes, high, words_from, exchanged}
use Rattle.file_pgm.specs.Samples.SampleLaws.{samples_long, high-above, words-samples}

module _ (bytes : List ℕ) (start count : ℕ) (long : length bytes ≡ start + 2 * count) (all : Bytes bytes) where
  count-is : length (samples_of (drop start bytes)) ≡ count
  count-is = samples_long count _ (omega (arith, length-drop start bytes, long))

  module _ (i bits : ℕ) (inside : i + 64 ≤ count) (seen : some 128 (λ k. ltb 15 (high bytes (start + 2 * i) k)) ≡ ltb 15 bits) where
    block : some 64 (λ k. ltb 4095 (get_or (samples_of (drop start bytes)) (i + k) 0)) ≡ ltb 15 bits
    block = sym (high-above bytes start i (omega (arith, long)) all) ∙ seen

    pub raster-hit : 15 < bits → no.sample_value ≡ above_refusal (samples_of (drop start bytes))
    unfolding above_refusal some_above
    raster-hit h = rw (one_of (length (samples_of (drop start bytes))) (λ k. ltb 4095 (get_or (samples_of (drop start bytes)) k 0)) i 64 (omega (arith, count-is)) (block ∙ lt-ltb 15 bits h))

    pub raster-turn : bits ≤ 15 → Passed (λ k. ltb 4095 (get_or (samples_of (drop start bytes)) k 0)) count i → Passed (λ k. ltb 4095 (get_or (samples_of (drop start bytes)) k 0)) count (i + 64)
    raster-turn h p = pass-turns p 64 inside (block ∙ le-ltb 15 bits h)

  pub raster-done : {i : ℕ} → Passed (λ k. ltb 4095 (get_or (samples_of (drop start bytes)) k 0)) count i → count ≤ i → 0 ≡ above_refusal (samples_of (drop start bytes))
  unfolding above_refusal some_above
  raster-done p h = rw (count-is, pass-done p h)

  module _ {frame₀ frame : List ℕ} (room : length frame₀ ≡ count) {at : ℕ} (w : Writing frame₀ 0 (λ k. get_or (samples_of (drop start bytes)) k 0) count at frame) where
    pub fill-block : {frame' block : List ℕ} → at + 64 ≤ count → block ≡ words_from bytes (start + 2 * at) → frame' ≡ written frame at (λ k. exchanged (get_or block k 0)) 64
        → Writing frame₀ 0 (λ k. get_or (samples_of (drop start bytes)) k 0) count (at + 64) frame'
    fill-block {frame'} {block} h e is =
        let inside : start + 2 * (at + 64) ≤ length bytes = omega (arith, long) in
        write-part w h (λ k l. ap (λ block. exchanged (get_or block k 0)) e ∙ words-samples bytes start at inside all k l) (rw zero-add is)

    pub fill-done : count ≤ at → frame ≡ samples_of (drop start bytes)
    fill-done h =
        let samples = samples_of (drop start bytes) in
        write_done w h ∙ written_all 0 frame₀ (λ k. get_or samples k 0) count room ∙ ap (λ n. tab n (λ k. get_or samples k 0)) (sym count-is) ∙ sym (tab-of 0 samples)
