-- What holds of a part wherever it is found. A refusal's number is never 0.
use Rattle.std.specs.Prelude.{◌≡◌}
use Rattle.file_burst.specs.Lines.Prelude.{refl, sym, ap, subst, List, ℕ, zero, suc, arith}
use Rattle.refusals.specs.declared.Refusal.{Refusal}
use Rattle.refusals.specs.Refused as code
use Rattle.refusals.specs.RefusedLaws.{some-number}
use Rattle.file_burst.specs.Lines.Part.{Part, refused, found, unless, number_of, ◌then◌, mapped}

abbrev pub Sound : {A : Type 0} → (A → List ℕ → Type 0) → Part A → Type 0
Sound P (refused number) = number ≡ 0 → ⊥
Sound P (found a rest) = P a rest

module _ {A : Type 0} (P : A → List ℕ → Type 0) where
  pub unless-sound : (number : ℕ) (part : Part A) → (number ≡ 0 → Sound P part) → Sound P (unless number part)
  unless-sound zero part s = s refl
  unless-sound (suc number) part s = λ e. absurd (omega arith)

  pub sound-at : {part : Part A} {a : A} {rest : List ℕ} → part ≡ found a rest → Sound P part → P a rest
  sound-at e s = subst (Sound P) e s

  -- a part with the number 0 is found
  pub sound-found : (part : Part A) → number_of part ≡ 0 → Sound P part → (a : A) × (rest : List ℕ) × (part ≡ found a rest) × P a rest
  sound-found (refused number) e s = absurd (s e)
  sound-found (found a rest) e s = (a, rest, refl, s)

pub found-refused : {A : Type 0} {a : A} {rest : List ℕ} {number : ℕ} → found a rest ≡ refused number → ⊥
found-refused e = let z : ◌≡◌ {A = ℕ} 0 1 = cc in omega arith

pub then-sound : {A B : Type 0} (P : A → List ℕ → Type 0) (Q : B → List ℕ → Type 0) (part : Part A) (next : A → List ℕ → Part B)
    → Sound P part → ((a : A) (rest : List ℕ) → P a rest → Sound Q (next a rest)) → Sound Q (part then next)
then-sound P Q (refused number) next s again = s
then-sound P Q (found a rest) next s again = again a rest s

pub both-sound : {A : Type 0} (P Q : A → List ℕ → Type 0) (part : Part A) → Sound P part → Sound Q part → Sound (λ a rest. P a rest × Q a rest) part
both-sound P Q (refused number) p q = p
both-sound P Q (found a rest) p q = (p, q)

-- a test ahead of a part, by the number that the code found for it
module _ {A : Type 0} (part : Part A) where
  pub unless-stops : {r a : ℕ} → r ≡ a → (r ≡ 0 → ⊥) → refused r ≡ unless a part
  unless-stops {a = zero} e h = absurd (h e)
  unless-stops {a = suc a} e h = ap refused e

  pub unless-goes : {r a : ℕ} → r ≡ a → r ≡ 0 → part ≡ unless a part
  unless-goes {a = a} e z = let passed : a ≡ 0 = omega arith in rw passed

-- a refusal's number ahead of a part
pub unless-refused : {A : Type 0} (refusal : Refusal) {a : ℕ} (part : Part A) → code.refusal_number refusal ≡ a → refused (code.refusal_number refusal) ≡ unless a part
unless-refused refusal part e = unless-stops part e (λ z. let some = some-number refusal in absurd (omega (arith, z, some)))

pub number-mapped : {A B : Type 0} (f : A → B) (part : Part A) → number_of (mapped f part) ≡ number_of part
number-mapped f (refused number) = refl
number-mapped f (found a rest) = refl

pub number-stops : {A : Type 0} {r : ℕ} (part : Part A) → r ≡ number_of part → (r ≡ 0 → ⊥) → part ≡ refused r
number-stops (refused number) e h = ap refused (sym e)
number-stops (found a rest) e h = absurd (h e)
