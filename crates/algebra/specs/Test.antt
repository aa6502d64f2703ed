-- Tests that antt computes: a conjunction, and one over all indices below a number. A table's rule is one such test.
use Rattle.std.specs.Prelude.{◌≡◌, ◌<◌}
use Rattle.algebra.specs.Prelude.{sym, subst, Bool, true, false, ℕ, zero, suc, arith, T}
use Rattle.std.proofs.Math.Decide.{ℕ_discrete}

abbrev pub both : Bool → Bool → Bool
both true b = b
both false b = false

pub both_l : (a b : Bool) → T (both a b) → T a
both_l true b t = tt
both_l false b t = t

pub both_r : (a b : Bool) → T (both a b) → T b
both_r true b t = t
both_r false b t = absurd t

-- f 0, .., f (n − 1) all hold
abbrev pub all : ℕ → (ℕ → Bool) → Bool
all zero f = true
all (suc n) f = both (f n) (all n f)

pub all_sound : (n : ℕ) (f : ℕ → Bool) → T (all n f) → (i : ℕ) → i < n → T (f i)
all_sound zero f t i h = absurd (omega arith)
all_sound (suc n) f t i h = last (all_sound n f (both_r (f n) (all n f) t) i) (ℕ_discrete i n)
  where
    last : (i < n → T (f i)) → Dec (i ≡ n) → T (f i)
    last g (yes e) = subst (λ j. T (f j)) (sym e) (both_l (f n) (all n f) t)
    last g (no c) = g (omega arith)
