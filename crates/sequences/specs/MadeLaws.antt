-- A list that `std::array::from_fn` makes, as a table.
use Rattle.algebra.specs.Prelude.{refl, sym, subst, ◌∙◌, ℕ, zero, suc, arith}
use Rattle.std.specs.Prelude.{List, [], get_or, ◌∷◌, ◌≡◌, ◌+◌, ◌≤◌, ◌<◌}
use Rattle.std.specs.Array.{IsFromFnResult, IsFromFnResultFrom}
use Rattle.std.proofs.Common.{length, ext_get_or, ⊎_elim}
use Rattle.std.proofs.lemmas.Bool.{cases_order}
use Rattle.sequences.specs.Tab.{tab}
use Rattle.sequences.specs.TabLaws.{length-tab, get_d-tab}
use denote.Param.Members.{Mut, Called}

none : (i k : ℕ) → i ≤ k → k < i + 0 → ⊥
none i k a b = omega arith

under : (i k : ℕ) → i ≤ k → k < i → ⊥
under i k a b = omega arith

-- of a closure f that each call leaves as it was, where a call at an index i below n gives h i
module _ {F B : Type 0} {g : Mut F (ℕ × Unit {0}) B} {f : F} {n : ℕ} (h : ℕ → B) (each : (i : ℕ) (y : B) (q : F) → i < n → Called g f (i, tt) y q → (y ≡ h i) × (q ≡ f)) where
  made-from : (o : B) (ys : List B) (m i : ℕ) (p : F) → p ≡ f → i + m ≤ n → IsFromFnResultFrom g p ys i m → (k : ℕ) → i ≤ k → k < i + m → get_or ys k o ≡ h k
  made-from o ys zero i p e l w k a b = absurd (none i k a b)
  made-from o ys (suc m) i p e l w k a b =
      let one = each i w.1 w.0 (omega arith) (subst (λ p. Called g p (i, tt) w.1 w.0) e w.3) in
      ⊎_elim (λ e. subst (λ k. get_or ys k o ≡ h k) e (w.2.1 o ∙ one.0))
      (⊎_elim (λ past. made-from o ys m (i + 1) w.0 one.1 (omega arith) w.4 k (omega arith) (omega arith)) (λ before. absurd (under i k a before)))
      (cases_order i k)

  -- the element at 0 stands past the end
  made-some : (ys : List B) (m : ℕ) → m ≡ n → length ys ≡ n → IsFromFnResultFrom g f ys 0 m → ys ≡ tab n h
  unfolding tab
  made-some [] zero e l w = subst (λ n. [] ≡ tab n h) e refl
  made-some (y ∷ ys) zero e l w = absurd (omega arith)
  made-some ys (suc m) e l w =
      ext_get_or w.1 ys (tab n h) (l ∙ sym (length-tab h n))
      (λ i j. let k : i < n = omega (arith, l) in made-from w.1 ys (suc m) 0 f refl (omega arith) w i (omega arith) (omega arith) ∙ sym (get_d-tab h w.1 n i k))

pub made-tab : {F B : Type 0} {g : Mut F (ℕ × Unit {0}) B} {f : F} {ys : List B} {n : ℕ} → IsFromFnResult g f ys n → (h : ℕ → B)
    → ((i : ℕ) (y : B) (q : F) → i < n → Called g f (i, tt) y q → (y ≡ h i) × (q ≡ f)) → ys ≡ tab n h
made-tab {ys = ys} {n = n} w h each = made-some h each ys n refl w.long w.each
