-- A call's tests: which number they end with, and that it is 0 exactly where each of them is.
use Rattle.std.specs.Prelude.{◌≡◌, ◌∷◌, ◌++◌}
use Rattle.algebra.specs.Prelude.{refl, Bool, true, false, List, [], ℕ, zero, suc, arith, T, ltb}
use Rattle.refusals.specs.Tests.{refuse, ◌before◌, first}

-- a test is one of a list
pub data In (test : ℕ) : List ℕ → Type 0 where
  here : {tests : List ℕ} → In test (test ∷ tests)
  there : {other : ℕ} {tests : List ℕ} → In test tests → In test (other ∷ tests)

before-both : (a b : ℕ) → a before b ≡ 0 → (a ≡ 0) × (b ≡ 0)
before-both zero b e = (refl, e)
before-both (suc a) b e = absurd (omega arith)

-- `search among` finds a test in a list, wherever it stands
pub ruleset among = (here, there)

-- the number is 0 where every test is, and only there
pub accepts : (tests : List ℕ) → ((test : ℕ) → In test tests → test ≡ 0) → first tests ≡ 0
unfolding first
accepts [] h = refl
accepts (test ∷ tests) h = rw (h test here) (accepts tests (λ t i. h t (there i)))

pub passed : {test : ℕ} {tests : List ℕ} → first tests ≡ 0 → In test tests → test ≡ 0
unfolding first
passed {test = test} {tests = []} e x5 = elim x5 [ ]
passed {test} {tests = other ∷ tests} e here = (before-both test (first tests) e).0
passed {test} {tests = other ∷ tests} e (there i) = passed (before-both other (first tests) e).1 i

-- the first of two lists refuses
pub stops : {r : ℕ} (tests others : List ℕ) → r ≡ first tests → (r ≡ 0 → ⊥) → r ≡ first (tests ++ others)
unfolding first
stops [] others e h = absurd (h e)
stops (zero ∷ tests) others e h = stops tests others e h
stops (suc n ∷ tests) others e h = e

-- it passes, and the second decides
pub goes : {r t : ℕ} (tests others : List ℕ) → r ≡ first tests → r ≡ 0 → t ≡ first others → t ≡ first (tests ++ others)
unfolding first
goes [] others e z k = k
goes (zero ∷ tests) others e z k = goes tests others e z k
goes (suc n ∷ tests) others e z k = absurd (omega arith)

-- both lists have passed where their tests have
pub both-passed : (tests others : List ℕ) → first (tests ++ others) ≡ 0 → (first tests ≡ 0) × (first others ≡ 0)
unfolding first
both-passed [] others e = (refl, e)
both-passed (zero ∷ tests) others e = both-passed tests others e
both-passed (suc n ∷ tests) others e = absurd (omega arith)

-- a list of one
pub lone : (test : ℕ) → test ≡ first (test ∷ [])
unfolding first
lone zero = refl
lone (suc n) = refl

-- a test that was passed
pub refuse-not : (number : ℕ) (condition : Bool) → T (ltb 0 number) → refuse number condition ≡ 0 → condition ≡ false
refuse-not zero condition l e = absurd l
refuse-not (suc number) true l e = absurd (omega arith)
refuse-not (suc number) false l e = refl
