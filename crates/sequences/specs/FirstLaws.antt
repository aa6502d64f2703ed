-- The first place that none beats: the loop that finds it, and, where `beats` is an order, what it is.
use Rattle.std.specs.Prelude.{◌≡◌, ◌+◌, ◌-◌, ◌≤◌, ◌<◌}
use Rattle.algebra.specs.Prelude.{refl, ap, ◌∙◌, Bool, true, false, ℕ, zero, suc, arith}
use borrow.Author.Count.{below_more}
use Rattle.sequences.specs.Least.{pick, first_by}

step_by : (beats : ℕ → ℕ → Bool) (f : ℕ → ℕ) (m at : ℕ) → at ≡ first_by beats f m → first_by beats f (suc m) ≡ pick (beats (f (suc m)) (f at)) (suc m) at
unfolding first_by
step_by beats f m at e = rw e

-- the first of the first k of n places, for k from 1 on: a loop's invariant
pub record First (beats : ℕ → ℕ → Bool) (f : ℕ → ℕ) (n k at best : ℕ) : Type 0 where
  pub some : 1 ≤ k
  pub count : k ≤ n
  pub is : at ≡ first_by beats f (k - 1)
  pub best_is : best ≡ f at
  pub within : at < k

module _ {beats : ℕ → ℕ → Bool} {f : ℕ → ℕ} {n : ℕ} where
  pub first-start : {best : ℕ} → 1 ≤ n → best ≡ f 0 → First beats f n 1 0 best
  unfolding first_by
  first-start h e = record { some = omega arith; count = h; is = refl; best_is = e; within = omega arith }

  -- the next place is taken or passed
  pub first-turn : (t : Bool) {k at best c : ℕ} → First beats f n k at best → k < n → c ≡ f k → beats c best ≡ t → First beats f n (k + 1) (pick t k at) (pick t c best)
  first-turn t {k} {at} {best} {c} w h e l =
      let s : k ≡ suc (k - 1) = omega (arith, w.some) in
      let next : k + 1 - 1 ≡ suc (k - 1) = omega (arith, w.some) in
      let b : beats (f (suc (k - 1))) (f at) ≡ t = rw (← s, ← e, ← w.best_is) l in
      record {
        some = omega arith;
        count = omega arith;
        is = rw (next, step_by beats f (k - 1) at w.is, b) (ap (λ j. pick t j at) s);
        best_is = (both t).0;
        within = (both t).1;
      }
    where
      both : (t : Bool) → (pick t c best ≡ f (pick t k at)) × (pick t k at < k + 1)
      both true = (e, omega arith)
      both false = (w.best_is, omega (arith, w.within))

  pub first_done : {k at best : ℕ} → First beats f n k at best → n ≤ k → at ≡ first_by beats f (n - 1)
  first_done {k} w h = let e : k - 1 ≡ n - 1 = omega (arith, w.count) in w.is ∙ ap (first_by beats f) e

module _ (beats : ℕ → ℕ → Bool) where
  pub first_most : (f : ℕ → ℕ) (n : ℕ) → first_by beats f n ≤ n
  unfolding first_by
  first_most f zero = omega arith
  first_most f (suc n) = by (first_most f n) (beats (f (suc n)) (f (first_by beats f n)))
    where
      by : first_by beats f n ≤ n → (t : Bool) → pick t (suc n) (first_by beats f n) ≤ suc n
      by h true = omega arith
      by h false = omega arith

  -- the same values, the same place
  pub first_cong : (f g : ℕ → ℕ) (n : ℕ) → ((k : ℕ) → k < n + 1 → f k ≡ g k) → first_by beats f n ≡ first_by beats g n
  unfolding first_by
  first_cong f g zero e = refl
  first_cong f g (suc n) e =
      let s = first_cong f g n (λ k h. e k (omega arith)) in
      let a = e (suc n) (omega arith) in
      let b = e (first_by beats f n) (omega (arith, first_most f n)) in
      rw (a, b, s)

-- a strict order in which what does not beat b is beaten by all that beats b
pub record Order (beats : ℕ → ℕ → Bool) : Type 0 where
  pub never : (a : ℕ) → beats a a ≡ false
  pub not_back : (a b : ℕ) → beats a b ≡ true → beats b a ≡ false
  pub over : (a b c : ℕ) → beats a b ≡ true → beats c b ≡ false → beats a c ≡ true

module _ {beats : ℕ → ℕ → Bool} (order : Order beats) (f : ℕ → ℕ) where
  -- none beats it
  pub unbeaten : (n k : ℕ) → k < n + 1 → beats (f k) (f (first_by beats f n)) ≡ false
  unfolding first_by
  unbeaten zero k h = let e : k ≡ 0 = omega arith in rw e (order.never (f 0))
  unbeaten (suc n) k h = by (λ j l. unbeaten n j l) (beats (f (suc n)) (f (first_by beats f n))) refl
    where
      by : ((j : ℕ) → j < n + 1 → beats (f j) (f (first_by beats f n)) ≡ false) →
          (t : Bool) → beats (f (suc n)) (f (first_by beats f n)) ≡ t → beats (f k) (f (pick t (suc n) (first_by beats f n))) ≡ false
      by before true e =
          below_more (λ (j : ℕ). beats (f j) (f (suc n)) ≡ false) (suc n)
          (λ j g. order.not_back _ _ (order.over _ _ _ e (before j (omega arith))))
          (order.never (f (suc n))) k h
      by before false e = below_more (λ (j : ℕ). beats (f j) (f (first_by beats f n)) ≡ false) (suc n) (λ j g. before j (omega arith)) e k h

  -- it beats those before it
  pub beats-before : (n k : ℕ) → k < first_by beats f n → beats (f (first_by beats f n)) (f k) ≡ true
  unfolding first_by
  beats-before zero k h = absurd (omega arith)
  beats-before (suc n) k h = by (beats-before n k) (beats (f (suc n)) (f (first_by beats f n))) refl h
    where
      by : (k < first_by beats f n → beats (f (first_by beats f n)) (f k) ≡ true) →
          (t : Bool) → beats (f (suc n)) (f (first_by beats f n)) ≡ t → k < pick t (suc n) (first_by beats f n) → beats (f (pick t (suc n) (first_by beats f n))) (f k) ≡ true
      by before true e h = order.over _ _ _ e (unbeaten n k (omega arith))
      by before false e h = before h
