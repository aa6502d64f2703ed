-- Inside this crate and merge_frame: a list that comes nearer to the words that it shall have, part by part, whatever order the parts are written in.
use Rattle.std.specs.Prelude.{◌≡◌, ◌+◌, ◌-◌, ◌<◌, ◌≤◌}
use Rattle.algebra.specs.Prelude.{refl, sym, subst, ◌∙◌, Bool, true, false, List, ℕ, arith, ltb, length, get_or}
use Rattle.std.proofs.Common.{ltb-true, ltb-false, ext_get_or}
use Rattle.sequences.specs.Write.{written, written_in, written-before, written_after, written-length}

-- m is as long as l, and has the word g k at each place k where l has it
pub record Toward {A : Type 0} (z : A) (g : ℕ → A) (l m : List A) : Type 0 where
  pub same : length m ≡ length l
  pub keeps : (k : ℕ) → get_or l k z ≡ g k → get_or m k z ≡ g k

module _ {A : Type 0} {z : A} {g : ℕ → A} where
  pub toward-same : {l : List A} → Toward z g l l
  toward-same = record { same = refl; keeps = λ k e. e }

  pub toward-on : {l m n : List A} → Toward z g l m → Toward z g m n → Toward z g l n
  toward-on v w = record { same = w.same ∙ v.same; keeps = λ k e. w.keeps k (v.keeps k e) }

-- a part that is written over with the right words: they stand there, and the list is nearer
module _ {A : Type 0} (z : A) (g : ℕ → A) (l : List A) (at : ℕ) (f : ℕ → A) (n : ℕ) (room : at + n ≤ length l) (right : (k : ℕ) → k < n → f k ≡ g (at + k)) where
  pub written-right : (k : ℕ) → k < n → get_or (written l at f n) (at + k) z ≡ g (at + k)
  written-right k h = written_in l at f n z room k h ∙ right k h

  pub written-toward : Toward z g l (written l at f n)
  written-toward = record { same = written-length l at f n z room; keeps = λ k e. by k e (ltb k at) refl (ltb k (at + n)) refl }
    where
      by : (k : ℕ) → get_or l k z ≡ g k → (a : Bool) → ltb k at ≡ a → (b : Bool) → ltb k (at + n) ≡ b → get_or (written l at f n) k z ≡ g k
      by k e true a _ b = written-before l at f n z room k (ltb-true k at a) ∙ e
      by k e false a true b =
          let place : at + (k - at) ≡ k = omega (arith, ltb-false k at a) in
          subst (λ j. get_or (written l at f n) j z ≡ g j) place (written-right (k - at) (omega (arith, ltb-true k (at + n) b)))
      by k e false a false b =
          let place : at + n + (k - (at + n)) ≡ k = omega (arith, ltb-false k (at + n) b) in
          subst (λ j. get_or (written l at f n) j z ≡ get_or l j z) place (written_after l at f n z room (k - (at + n))) ∙ e

-- a list that shall have a part written over: outside the part it has those words
abbrev pub goal : {A : Type 0} (z : A) (d : List A) (at : ℕ) (f : ℕ → A) (n k : ℕ) → A
goal z d at f n k = get_or (written d at f n) k z

module _ {A : Type 0} (z : A) (d : List A) (at : ℕ) (f : ℕ → A) (n : ℕ) (room : at + n ≤ length d) where
  pub toward-written : {l : List A} → Toward z (goal z d at f n) d l → ((k : ℕ) → k < n → get_or l (at + k) z ≡ f k) → l ≡ written d at f n
  toward-written {l} w right = ext_get_or z l (written d at f n) (w.same ∙ sym long) (λ k h. by k (ltb k at) refl (ltb k (at + n)) refl)
    where
      long : length (written d at f n) ≡ length d
      long = written-length d at f n z room

      by : (k : ℕ) → (a : Bool) → ltb k at ≡ a → (b : Bool) → ltb k (at + n) ≡ b → get_or l k z ≡ goal z d at f n k
      by k true a _ b = w.keeps k (sym (written-before d at f n z room k (ltb-true k at a)))
      by k false a true b =
          let place : at + (k - at) ≡ k = omega (arith, ltb-false k at a) in
          let below : k - at < n = omega (arith, ltb-true k (at + n) b) in
          subst (λ j. get_or l j z ≡ goal z d at f n j) place (right (k - at) below ∙ sym (written_in d at f n z room (k - at) below))
      by k false a false b =
          let place : at + n + (k - (at + n)) ≡ k = omega (arith, ltb-false k (at + n) b) in
          w.keeps k (sym (subst (λ j. goal z d at f n j ≡ get_or d j z) place (written_after d at f n z room (k - (at + n)))))
