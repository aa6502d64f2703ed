-- Samples and their two bytes, one way and the other.
use Rattle.std.specs.Prelude.{◌≡◌, ◌||◌, ◌∷◌, ◌+◌, ◌-◌, ◌*◌, ◌/◌, ◌%◌, ◌≤◌, ◌<◌}
use Rattle.algebra.specs.Prelude.{refl, ap, ap₂, ◌∙◌, Bool, List, [], ℕ, zero, suc, arith, ltb, length, get_or, drop}
use Rattle.std.proofs.Math.Bool.{or_assoc}
use Rattle.std.proofs.Math.Nat.{mul-zero, mul-one}
use Rattle.std.proofs.Math.Decide.{dec_lt}
use Rattle.std.proofs.Common.{length-drop, get_or-drop}
use borrow.Author.Tests.{lt-ltb, le-ltb}
use Rattle.sequences.specs.TabLaws.{get_d-tab}
use Rattle.refusals.specs.Some.{some}
use Rattle.refusals.specs.SomeLaws.{or-false}
use Rattle.file_pgm.specs.Samples.Samples.{bytes_of, samples_of}
use Rattle.file_pgm.specs.Samples.Blocks.{Bytes, high, words_from, exchanged}

pub bytes_drop : (bytes : List ℕ) (start : ℕ) → Bytes bytes → Bytes (drop start bytes)
bytes_drop bytes start all = record { below = λ k. rw get_or-drop (all.below (start + k)) }

pub samples-bytes : (samples : List ℕ) → samples_of (bytes_of samples) ≡ samples
unfolding samples_of bytes_of
samples-bytes [] = refl
samples-bytes (sample ∷ samples) = ap₂ (λ x l. x ∷ l) (omega arith) (samples-bytes samples)

pub samples_long : (n : ℕ) (bytes : List ℕ) → length bytes ≡ 2 * n → length (samples_of bytes) ≡ n
unfolding samples_of
samples_long n [] e = omega arith
samples_long n (byte ∷ []) e = absurd (omega arith)
samples_long zero (high ∷ low ∷ bytes) e = absurd (omega arith)
samples_long (suc n) (high ∷ low ∷ bytes) e = ap suc (samples_long n bytes (omega arith))

pub bytes-samples : (n : ℕ) (bytes : List ℕ) → length bytes ≡ 2 * n → Bytes bytes → bytes_of (samples_of bytes) ≡ bytes
unfolding samples_of bytes_of
bytes-samples n [] e b = refl
bytes-samples n (byte ∷ []) e b = absurd (omega arith)
bytes-samples zero (high ∷ low ∷ bytes) e b = absurd (omega arith)
bytes-samples (suc n) (high ∷ low ∷ bytes) e b =
    let small : low < 256 = b.below 1 in
    let first : (high * 256 + low) / 256 ≡ high = omega arith in
    let second : (high * 256 + low) % 256 ≡ low = omega arith in
    rw (first, second, bytes-samples n bytes (omega arith) (record { below = λ k. b.below (suc (suc k)) }))

at : (bytes : List ℕ) (k : ℕ) → 2 * k + 1 < length bytes → get_or (samples_of bytes) k 0 ≡ get_or bytes (2 * k) 0 * 256 + get_or bytes (2 * k + 1) 0
unfolding samples_of
at [] k h = absurd (omega arith)
at (byte ∷ []) k h = absurd (omega arith)
at (high ∷ low ∷ bytes) zero h = refl
at (high ∷ low ∷ bytes) (suc k) h =
    let first : 2 * suc k ≡ suc (suc (2 * k)) = omega arith in
    let second : 2 * suc k + 1 ≡ suc (suc (2 * k + 1)) = omega arith in
    rw (second, first) (at bytes k (omega arith))

-- sample k of those that start at a place, by where its bytes are
module _ (bytes : List ℕ) (start k i : ℕ) (place : i ≡ start + 2 * k) (inside : i + 1 < length bytes) where
  pub sample-at : get_or (samples_of (drop start bytes)) k 0 ≡ get_or bytes i 0 * 256 + get_or bytes (i + 1) 0
  sample-at =
      let first : start + 2 * k ≡ i = omega arith in
      let second : start + (2 * k + 1) ≡ i + 1 = omega arith in
      at (drop start bytes) k (omega (arith, length-drop start bytes))
      ∙ ap₂ (λ x y. x * 256 + y) (get_or-drop start bytes (2 * k) 0 ∙ ap (λ i. get_or bytes i 0) first) (get_or-drop start bytes (2 * k + 1) 0 ∙ ap (λ i. get_or bytes i 0) second)

-- a test of pairs
some_pairs : (n : ℕ) (g f : ℕ → Bool) → ((k : ℕ) → k < n → g (2 * k) || g (2 * k + 1) ≡ f k) → some (2 * n) g ≡ some n f
unfolding some
some_pairs zero g f h = refl
some_pairs (suc n) g f h =
    let twice : 2 * suc n ≡ suc (suc (2 * n)) = omega arith in
    let next : suc (2 * n) ≡ 2 * n + 1 = omega arith in
    rw (twice, next) (or_assoc (some (2 * n) g) (g (2 * n)) (g (2 * n + 1)) ∙ ap₂ (λ a b. a || b) (some_pairs n g f (λ k l. h k (omega arith))) (h n (omega arith)))

-- the test of 64 samples by their high bytes
module _ (bytes : List ℕ) (start at : ℕ) (inside : start + 2 * (at + 64) ≤ length bytes) (all : Bytes bytes) where
  pub high-above : some 128 (λ k. ltb 15 (high bytes (start + 2 * at) k)) ≡ some 64 (λ k. ltb 4095 (get_or (samples_of (drop start bytes)) (at + k) 0))
  unfolding high
  high-above = some_pairs 64 (λ k. ltb 15 (high bytes (start + 2 * at) k)) (λ k. ltb 4095 (get_or (samples_of (drop start bytes)) (at + k) 0)) pair
    where
      pair : (k : ℕ) → k < 64 → ltb 15 (high bytes (start + 2 * at) (2 * k)) || ltb 15 (high bytes (start + 2 * at) (2 * k + 1)) ≡ ltb 4095 (get_or (samples_of (drop start bytes)) (at + k) 0)
      pair k h =
          let i = start + 2 * at + 2 * k in
          let even : 1 - 2 * k % 2 ≡ 1 = omega arith in
          let odd : 1 - (2 * k + 1) % 2 ≡ 0 = omega arith in
          let small = all.below (i + 1) in
          rw (even, odd, mul-zero, mul-one, le-ltb 15 0 (omega arith), or-false, sample-at bytes start (at + k) i (omega arith) (omega arith)) (by (dec_lt 15 (get_or bytes i 0)) small)
        where
          by : {x y : ℕ} → Dec (15 < x) → y < 256 → ltb 15 x ≡ ltb 4095 (x * 256 + y)
          by {x} {y} (yes p) l = rw (lt-ltb 15 x p, lt-ltb 4095 (x * 256 + y) (omega arith))
          by {x} {y} (no p) l = rw (le-ltb 15 x (omega arith), le-ltb 4095 (x * 256 + y) (omega arith))

-- a block's words with their bytes exchanged are the samples
module _ (bytes : List ℕ) (start at : ℕ) (inside : start + 2 * (at + 64) ≤ length bytes) (all : Bytes bytes) where
  pub words-samples : (k : ℕ) → k < 64 → exchanged (get_or (words_from bytes (start + 2 * at)) k 0) ≡ get_or (samples_of (drop start bytes)) (at + k) 0
  unfolding exchanged words_from
  words-samples k h =
      let i = start + 2 * at + 2 * k in
      let word : ℕ → ℕ = λ k. get_or bytes (start + 2 * at + 2 * k) 0 + get_or bytes (start + 2 * at + 2 * k + 1) 0 * 256 in
      rw (get_d-tab word 0 64 k h) (omega (arith, sample-at bytes start (at + k) i (omega arith) (omega arith), all.below i, all.below (i + 1)))
