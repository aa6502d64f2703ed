-- The first of some numbers that is not 0, as a loop finds it; and that 20 and 21 always name a tag.
use Rattle.std.specs.Prelude.{◌≡◌, ◌∷◌, ◌+◌, ◌≤◌, ◌<◌}
use Rattle.file_dng.specs.Tags.Prelude.{refl, sym, ap, ◌∙◌, Bool, true, false, cond, List, [], ℕ, zero, suc, arith, eqb, refuse, ◌before◌, first, some, Shape, Entry}
use Rattle.std.proofs.lemmas.Bool.{false≢true, eqb-false}
use Rattle.std.proofs.Common.{add-one}
use Rattle.std.proofs.Math.Decide.{ℕ_discrete}
use Rattle.refusals.specs.Numbers as no
use Rattle.refusals.specs.TestLaws.{here, there, passed}
use Rattle.refusals.specs.SomeLaws.{none, not-one}
use Rattle.file_dng.specs.Tags.Tags.{StripByteCounts, tags, tag_at, demands, demand_at, has_black, listed, demanded}
use Rattle.file_dng.specs.Tags.Refusals.{absent, outside, not_once, size_differs, demand_missed, otherwise, tag_tests}
use Rattle.file_dng.specs.Tags.TagLaws.{listed-most}
use Rattle.file_dng.specs.Tags.Faults.{first_of, demand_tag, count_fault, value_fault, fault_tag}

-- f 0, .., f (i − 1) are 0, of n: a loop's invariant
pub record Zeros (f : ℕ → ℕ) (n i : ℕ) : Type 0 where
  pub count : i ≤ n
  pub past : first_of i f ≡ 0

module _ {f : ℕ → ℕ} {n : ℕ} where
  pub zeros-start : Zeros f n 0
  unfolding first_of
  zeros-start = record { count = omega arith; past = refl }

  pub zeros-turn : {i : ℕ} → Zeros f n i → i < n → f i ≡ 0 → Zeros f n (i + 1)
  unfolding first_of
  zeros-turn {i} z h e = record { count = omega arith; past = rw (add-one i, z.past) e }

  pub zeros-done : {i : ℕ} → Zeros f n i → n ≤ i → first_of n f ≡ 0
  zeros-done {i} z h = let all : n ≡ i = omega arith in rw all z.past

before-zero : (a b : ℕ) → a before b ≡ 0 → (a ≡ 0) × (b ≡ 0)
before-zero zero b e = (refl, e)
before-zero (suc a) b e = absurd (omega arith)

before-kept : (a b : ℕ) → (a ≡ 0 → ⊥) → a before b ≡ a
before-kept zero b h = absurd (h refl)
before-kept (suc a) b h = refl

-- the first that is not 0 is the answer
pub zeros-found : (f : ℕ → ℕ) (n : ℕ) {i : ℕ} → i < n → first_of i f ≡ 0 → (f i ≡ 0 → ⊥) → first_of n f ≡ f i
unfolding first_of
zeros-found f zero h z e = absurd (omega arith)
zeros-found f (suc n) {i} h z e = last (λ l. zeros-found f n {i = i} l z e) (ℕ_discrete i n)
  where
    last : (i < n → first_of n f ≡ f i) → Dec (i ≡ n) → first_of n f before f n ≡ f i
    last again (yes p) = ap (λ k. first_of k f before f k) (sym p) ∙ rw z
    last again (no p) =
        let found = again (omega arith) in
        before-kept (first_of n f) (f n) (λ k. e (sym found ∙ k)) ∙ found

-- the answer is 0 only where all are
pub all-zero : (n : ℕ) (f : ℕ → ℕ) → first_of n f ≡ 0 → (i : ℕ) → i < n → f i ≡ 0
unfolding first_of
all-zero zero f e i h = absurd (omega arith)
all-zero (suc n) f e i h = last (λ l. all-zero n f (before-zero (first_of n f) (f n) e).0 i l) (ℕ_discrete i n)
  where
    last : (i < n → f i ≡ 0) → Dec (i ≡ n) → f i ≡ 0
    last again (yes p) = ap f p ∙ (before-zero (first_of n f) (f n) e).1
    last again (no p) = again (omega arith)

refuse-named : (number : ℕ) (condition : Bool) → (number ≡ 0 → ⊥) → refuse number condition ≡ 0 → condition ≡ false
refuse-named number true h e = absurd (h e)
refuse-named number false h e = refl

-- rows with a tag each, of which one is hit
named : (n : ℕ) (tag : ℕ → ℕ) (test : ℕ → Bool) → ((row : ℕ) → row < n → tag row ≡ 0 → ⊥) → first_of n (λ row. refuse (tag row) (test row)) ≡ 0 → some n test ≡ false
named n tag test h e = not-one n test (λ row l. refuse-named (tag row) (test row) (h row l) (all-zero n (λ row. refuse (tag row) (test row)) e row l))

-- each row of either table has a tag
tag-named : (row : ℕ) → row < 14 → (tag_at row).tag ≡ 0 → ⊥
unfolding some tag_at tags
tag-named row h = eqb-false _ _ (none 14 (λ row. eqb (tag_at row).tag 0) refl row h)

demand-named : (row : ℕ) → row < 13 → demand_tag row ≡ 0 → ⊥
unfolding some tag_at tags demand_at demands
demand-named row h = eqb-false _ _ (none 13 (λ row. eqb (demand_tag row) 0) refl row h)

demanded-most : (es : List Entry) → demanded es ≤ 13
unfolding demanded
demanded-most es = from (has_black es)
  where
    from : (black : Bool) → cond black 13 11 ≤ 13
    from true = omega arith
    from false = omega arith

-- which test has refused, of three
second-refused : (a b c : Bool) → b ≡ false → first (refuse no.dng_structure a ∷ refuse no.dng_tag b ∷ refuse no.dng_value c ∷ []) ≡ no.dng_tag → ⊥
unfolding first
second-refused true b c h e = absurd (omega arith)
second-refused false true c h e = absurd (false≢true (sym h))
second-refused false false true h e = absurd (omega arith)
second-refused false false false h e = absurd (omega arith)

third-refused : (a b c : Bool) → c ≡ false → first (refuse no.dng_structure a ∷ refuse no.dng_tag b ∷ refuse no.dng_value c ∷ []) ≡ no.dng_value → ⊥
unfolding first
third-refused true b c h e = absurd (omega arith)
third-refused false true c h e = absurd (omega arith)
third-refused false false true h e = absurd (false≢true (sym h))
third-refused false false false h e = absurd (omega arith)

module _ (file : List ℕ) (es : List Entry) (s : Shape) where
  row_named : (row : ℕ) → row < listed es → (tag_at row).tag ≡ 0 → ⊥
  row_named row h = tag-named row (omega (arith, listed-most es))

  -- 20 names the tag that is absent or given twice
  pub named-20 : first (tag_tests file es s) ≡ no.dng_tag → fault_tag no.dng_tag file es s ≡ 0 → ⊥
  unfolding tag_tests fault_tag count_fault
  named-20 e z =
      second-refused (outside file es) (some (listed es) (λ row. not_once es row)) (otherwise file es s)
      (named (listed es) (λ row. (tag_at row).tag) (λ row. not_once es row) row_named z) e

  value-named : value_fault file es s ≡ 0 → otherwise file es s ≡ false
  unfolding value_fault otherwise
  value-named z =
      let right : some (listed es) (λ row. absent file es row) ≡ false = named (listed es) (λ row. (tag_at row).tag) (λ row. absent file es row) row_named (passed z here) in
      let strip : size_differs file es s ≡ false = refuse-named (tag_at StripByteCounts).tag (size_differs file es s) (tag-named StripByteCounts (omega arith)) (passed z (there here)) in
      let values : some (demanded es) (λ row. demand_missed file es row) ≡ false =
      named (demanded es) (λ row. demand_tag row) (λ row. demand_missed file es row) (λ row h. demand-named row (omega (arith, demanded-most es))) (passed z (there (there here))) in
      rw (right, strip, values)

  -- 21 names the tag of another type, count or value
  pub named-21 : first (tag_tests file es s) ≡ no.dng_value → fault_tag no.dng_value file es s ≡ 0 → ⊥
  unfolding tag_tests fault_tag
  named-21 e z = third-refused (outside file es) (some (listed es) (λ row. not_once es row)) (otherwise file es s) (value-named z) e
