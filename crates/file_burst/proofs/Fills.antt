-- The loop that stores the next values one by one.
use Rattle.std.specs.Prelude.{◌≡◌, ◌∷◌, ◌+◌, ◌-◌, ◌<◌}
use Rattle.file_burst.specs.Prelude.{refl, sym, ap, ◌∙◌, List, ℕ, zero, suc, arith, length, get_or, drop, item_of, value_in, rest_in, next_values}
use native.Mathlib.Numerals.{add-one}
use lib.Seq.{drop-cons}
use Rattle.sequences.specs.Tab.{tab}
use Rattle.sequences.specs.Grid.{tab-of}

-- t is what is left of s after j of its next n values
pub record Taking (n : ℕ) (s : List ℕ) (j : ℕ) (t : List ℕ) : Type 0 where
  pub is : next_values (n - j) t ≡ drop j (next_values n s)

length-next : (n : ℕ) (s : List ℕ) → length (next_values n s) ≡ n
unfolding next_values
length-next zero s = refl
length-next (suc n) s = ap suc (length-next n (rest_in (item_of s)))

module _ {n : ℕ} {s : List ℕ} where
  pub take-start : Taking n s 0 s
  take-start = record { is = ap (λ (k : ℕ). next_values k s) (omega arith) }

  module _ {j : ℕ} {t : List ℕ} (w : Taking n s j t) (h : j < n) where
    both : value_in (item_of t) ∷ next_values (n - (j + 1)) (rest_in (item_of t)) ≡ get_or (next_values n s) j 0 ∷ drop (j + 1) (next_values n s)
    unfolding next_values
    both =
        let e : n - j ≡ suc (n - (j + 1)) = omega arith in
        let k : j < length (next_values n s) = omega (arith, length-next n s) in
        ap (λ (m : ℕ). next_values m t) (sym e) ∙ w.is ∙ drop-cons (next_values n s) j 0 k ∙ ap (λ (m : ℕ). get_or (next_values n s) j 0 ∷ drop m (next_values n s)) (sym (add-one j))

    pub take-value : value_in (item_of t) ≡ get_or (next_values n s) j 0
    take-value = cc both

    pub take-turn : {rest : List ℕ} → rest ≡ rest_in (item_of t) → Taking n s (j + 1) rest
    take-turn e = record { is = rw e (cc both) }

pub next-table : (n : ℕ) (s : List ℕ) → tab n (λ k. get_or (next_values n s) k 0) ≡ next_values n s
next-table n s = ap (λ (k : ℕ). tab k (λ k. get_or (next_values n s) k 0)) (sym (length-next n s)) ∙ sym (tab-of 0 (next_values n s))
