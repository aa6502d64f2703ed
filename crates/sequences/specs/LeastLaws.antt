-- The first least place comes before no smaller and no equal one; and a loop that finds it from a bound above every value.
use Rattle.algebra.specs.Prelude.{refl, ap, ◌∙◌, true, false, ℕ, suc, arith, ltb}
use Rattle.std.specs.Prelude.{◌⊎◌, ◌≡◌, ◌+◌, ◌≤◌, ◌<◌}
use Rattle.std.proofs.Common.{inl, inr, ⊎_elim, lt-ltb, le-ltb, ltb-true, ltb-false}
use Rattle.sequences.specs.Least.{first_min}
use Rattle.sequences.specs.FirstLaws.{First, first-start, first-turn, first_done, first_most, first_cong, Order, unbeaten, beats-before}

less : Order ltb
less =
    record {
      never = λ a. le-ltb a a (omega arith);
      not_back = λ a b h. le-ltb b a (omega (arith, ltb-true a b h));
      over = λ a b c h l. lt-ltb a c (omega (arith, ltb-true a b h, ltb-false c b l));
    }

pub first_min-most : (f : ℕ → ℕ) (n : ℕ) → first_min f n ≤ n
first_min-most = first_most ltb

-- nothing is less
pub least : (f : ℕ → ℕ) (n k : ℕ) → k < n + 1 → f (first_min f n) ≤ f k
least f n k h = ltb-false _ _ (unbeaten less f n k h)

-- what stands before the first least place is greater
pub first : (f : ℕ → ℕ) (n k : ℕ) → k < first_min f n → f (first_min f n) < f k
first f n k h = ltb-true _ _ (beats-before less f n k h)

pub first_min-cong : (f g : ℕ → ℕ) (n : ℕ) → ((k : ℕ) → k < n + 1 → f k ≡ g k) → first_min f n ≡ first_min g n
first_min-cong = first_cong ltb

-- the least of the first k of n values, each at most b, or top where there is none yet: a loop's invariant
pub record Lowest (f : ℕ → ℕ) (b top n k at low : ℕ) : Type 0 where
  pub count : k ≤ n
  pub most : low ≤ top
  pub is : ((k ≡ 0) × (low ≡ top)) ⊎ ((First ltb f n k at low) × (low ≤ b))

module _ {f : ℕ → ℕ} {b top n : ℕ} where
  pub lowest_start : {at : ℕ} → Lowest f b top n 0 at top
  lowest_start = record { count = omega arith; most = omega arith; is = inl (refl, refl) }

  module _ {k at low c : ℕ} (w : Lowest f b top n k at low) (h : k < n) (e : c ≡ f k) (l : c ≤ b) where
    pub lowest-take : c < low → Lowest f b top n (k + 1) k c
    lowest-take t =
        record {
          count = omega arith;
          most = omega (arith, w.most);
          is =
              inr (
                ⊎_elim
                    (λ z. rw z.0 (first-start (omega arith) (rw z.0 at e)))
                    (λ s. first-turn true s.0 h e (lt-ltb _ _ t))
                    w.is,
                l,
              );
        }

    pub lowest-keep : b < top → low ≤ c → Lowest f b top n (k + 1) at low
    lowest-keep a t =
        record {
          count = omega arith;
          most = w.most;
          is = inr (⊎_elim (λ z. absurd (omega (arith, z.1))) (λ s. (first-turn false s.0 h e (le-ltb _ _ t), s.1)) w.is);
        }

pub lowest-done : {f : ℕ → ℕ} {b top n k at low : ℕ} → Lowest f b top (suc n) k at low → suc n ≤ k → (at ≡ first_min f n) × (low ≡ f at) × (low ≤ b)
lowest-done {f} {b} {top} {n} w h =
    ⊎_elim
    (λ z. absurd (omega (arith, z.0)))
    (λ s. (first_done s.0 h ∙ ap (first_min f) (omega arith), s.0.best_is, s.1))
    w.is
