-- A list that `std::array::from_fn` makes, as a table.
use Rattle.std.specs.Prelude.{◌≡◌, ◌+◌, ◌<◌}
use Rattle.std.specs.Array.{IsFromFnResult, IsFromFnResultFrom}
use Rattle.std.proofs.Common.{subst, sym, suc, zero, ext_get_or}
use Rattle.merge_tiles.specs.Prelude.{◌∙◌, List, ℕ, arith, get_or, tab}
use Rattle.sequences.specs.TabLaws.{length-tab, get_d-tab}
use denote.Param.Members.{Mut, Called}

-- where each call keeps P of the closure, and while P holds a call at i can only give h i
module _ {F B : Type 0} {g : Mut F (ℕ × Unit {0}) B} (P : F → Type 0) (h : ℕ → B) (step : (i : ℕ) (p q : F) (y : B) → P p → Called g p (i, tt) y q → (y ≡ h i) × P q) where
  each : {f : F} (ys : List B) (d : B) (n i k j : ℕ) → P f → IsFromFnResultFrom g f ys i n → i + j ≡ k → j < n → get_or ys k d ≡ h k
  each ys d zero i k j p m e b = absurd (omega arith)
  each {f} ys d (suc n) i k zero p (q, y, at, call, rest) e b =
      let s : i ≡ k = omega arith in
      subst (λ m. get_or ys m d ≡ h m) s (at.1 d ∙ (step i f q y p call).0)
  each {f} ys d (suc n) i k (suc j) p (q, y, at, call, rest) e b = each {f = q} ys d n (i + 1) k j (step i f q y p call).1 rest (omega arith) (omega arith)

  pub made-tab : {f : F} {ys : List B} {n : ℕ} → P f → B → IsFromFnResult g f ys n → ys ≡ tab n h
  made-tab {f} {ys} {n} p d w =
      ext_get_or d ys (tab n h) (w.long ∙ sym (length-tab h n))
      (λ i l. let k : i < n = omega (arith, w.long) in each ys d n 0 i i p w.each (omega arith) k ∙ sym (get_d-tab h d n i k))
