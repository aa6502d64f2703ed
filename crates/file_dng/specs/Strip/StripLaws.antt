-- A sample of the strip and its two bytes, and the strip's samples 64 at a time.
use Rattle.std.specs.Prelude.{◌≡◌, ◌+◌, ◌*◌, ◌/◌, ◌%◌, ◌≤◌, ◌<◌}
use Rattle.algebra.specs.Prelude.{refl, sym, ap, ◌∙◌, Bool, true, false, List, ℕ, zero, suc, arith, ltb, get_or}
use Rattle.std.proofs.Common.{mul_assoc}
use Rattle.std.proofs.Math.Nat.{mul-mod_left}
use Rattle.refusals.specs.Some.{some}
use Rattle.refusals.specs.SomeLaws.{one_of, Passed, pass-turns, pass-done}
use Rattle.file_dng.specs.Tiff.Bytes.{short}
use Rattle.file_dng.specs.Strip.Strip.{strip_sample, strip_refusal}

-- tests that agree at each index
pub same_test : (n : ℕ) (f g : ℕ → Bool) → ((i : ℕ) → i < n → f i ≡ g i) → some n f ≡ some n g
unfolding some
same_test zero f g h = refl
same_test (suc n) f g h = rw (same_test n f g (λ i l. h i (omega arith)), h n (omega arith))

pub sample-bytes : (file : List ℕ) (start place : ℕ) → get_or file (start + 2 * place) 0 + 256 * get_or file (start + 2 * place + 1) 0 ≡ strip_sample file start place
unfolding strip_sample short
sample-bytes file start place = refl

-- rows of whole blocks have an area of whole blocks
pub area-whole : (width height : ℕ) → height % 64 ≡ 0 → width * height % 64 ≡ 0
area-whole width height e =
    let parts : height ≡ height / 64 * 64 = omega arith in
    ap (λ n. width * n % 64) parts ∙ ap (λ n. n % 64) (sym (mul_assoc width (height / 64) 64)) ∙ mul-mod_left (width * (height / 64)) 64

module _ (file : List ℕ) (start count : ℕ) where
  abbrev pub above : ℕ → Bool
  above place = ltb 4095 (strip_sample file start place)

  -- the test of a block, from its own beginning and from the strip's
  pub block : (i : ℕ) → some 64 (λ k. above (i + k)) ≡ some 64 (λ k. ltb 4095 (strip_sample file (start + 2 * i) k))
  unfolding strip_sample
  block i = same_test 64 (λ k. above (i + k)) (λ k. ltb 4095 (strip_sample file (start + 2 * i) k)) (λ k h. let place : start + 2 * (i + k) ≡ start + 2 * i + 2 * k = omega arith in ap (λ n. ltb 4095 (short file n)) place)

  pub strip-refused : (i : ℕ) → i + 64 ≤ count → some 64 (λ k. above (i + k)) ≡ true → 11 ≡ strip_refusal file start count
  unfolding strip_refusal
  strip-refused i h e = rw (one_of count above i 64 h e)

  pub strip-passed : {i : ℕ} → Passed above count i → i + 64 ≤ count → some 64 (λ k. above (i + k)) ≡ false → Passed above count (i + 64)
  strip-passed p h e = pass-turns p 64 h e

  pub strip-accepted : {i : ℕ} → Passed above count i → count ≤ i → 0 ≡ strip_refusal file start count
  unfolding strip_refusal
  strip-accepted p h = rw (pass-done p h)
