-- A row of sums to which numbers are added one after the other, over the row's length and the numbers' bound.
use Rattle.std.specs.Prelude.{◌≡◌, ◌+◌, ◌^◌, ◌≤◌, ◌<◌, ◌+ℤ◌}
use Rattle.algebra.specs.Prelude.{sym, ap, ap₂, subst, ◌∙◌, List, ℕ, T, arith, ltb, nat_abs, get_or, set, ℤ, pos, w64, SFits, to_z, of_z, to_z-of_z}
use Rattle.std.proofs.Common.{le_refl}
use Rattle.std.proofs.Math.Facts.{ltb_yes, yes_ltb}
use Rattle.algebra.specs.Bound.{AtMost, add-fits}
use Rattle.algebra.specs.Nearest.{away}
use Rattle.sequences.specs.Tab.{tab}
use Rattle.sequences.specs.TabLaws.{Filled, fill-turn, fill-rest, get_d-tab}
use Rattle.sequences.specs.Grid.{tab-ext}
use Rattle.tile_spectrum.specs.Lines.Lines.{LineMost}
use Rattle.tile_spectrum.specs.Lines.Held.{line_at, number_is, number-most}

-- two numbers whose magnitudes add up to less than 2^63: their sum
module _ (s r : ℤ) (m : nat_abs s + nat_abs r < 2 ^ 63) where
  sum-first : AtMost (nat_abs s) s
  sum-first = record { most = le_refl (nat_abs s) }

  sum-second : AtMost (nat_abs r) r
  sum-second = record { most = le_refl (nat_abs r) }

  first-held : T (ltb (nat_abs s) (2 ^ 63))
  first-held = yes_ltb (omega arith)

  second-held : T (ltb (nat_abs r) (2 ^ 63))
  second-held = yes_ltb (omega arith)

  pub sum-fits : SFits w64 (to_z w64 (of_z w64 s) +ℤ to_z w64 (of_z w64 r))
  sum-fits = add-fits w64 _ _ _ _ (number-most w64 sum-first first-held) (number-most w64 sum-second second-held) (yes_ltb m)

  pub sum-is : to_z w64 (of_z w64 (to_z w64 (of_z w64 s) +ℤ to_z w64 (of_z w64 r))) ≡ s +ℤ r
  sum-is = to_z-of_z sum-fits ∙ ap₂ ◌+ℤ◌ (number_is w64 sum-first first-held) (number_is w64 sum-second second-held)

-- a sum of at most 2^40 and what rounds a half
pub adding-below : {s : List ℤ} → LineMost (2 ^ 40) s → (l : ℕ) (r : ℤ) → nat_abs r ≤ 2 ^ 24 → nat_abs (get_or s l (pos 0)) + nat_abs r < 2 ^ 63
adding-below m l r k = omega (arith, m.at l, k)

-- number l of the sums t, at most 2^40 as that of s, and r of at most b
module _ {f : ℕ → ℤ} {n l b : ℕ} {s t : List ℤ} {r : ℤ} (i : Filled f n l s t) (h : l < n) (m : LineMost (2 ^ 40) s) (k : AtMost b r) (u : T (ltb b (2 ^ 63))) (v : T (ltb (2 ^ 40 + b) (2 ^ 63))) where
  unset : get_or t l (pos 0) ≡ get_or s l (pos 0)
  unset = fill-rest i h (pos 0)

  sum-most : AtMost (2 ^ 40) (get_or t l (pos 0))
  sum-most = subst (AtMost (2 ^ 40)) (sym unset) (line_at m l)

  both-below : nat_abs (get_or t l (pos 0)) + nat_abs r < 2 ^ 63
  both-below = omega (arith, sum-most.most, k.most, ltb_yes v)

  pub adding-fits : SFits w64 (to_z w64 (of_z w64 (get_or t l (pos 0))) +ℤ to_z w64 (of_z w64 r))
  adding-fits = sum-fits (get_or t l (pos 0)) r both-below

  pub adding-turn : get_or s l (pos 0) +ℤ r ≡ f l → Filled f n (l + 1) s (set t l (to_z w64 (of_z w64 (to_z w64 (of_z w64 (get_or t l (pos 0))) +ℤ to_z w64 (of_z w64 r)))))
  adding-turn e = fill-turn i h (sum-is (get_or t l (pos 0)) r both-below ∙ ap (λ z. z +ℤ r) unset ∙ e)

-- what is added to equal rows, and equal numbers added
pub added-to : (n : ℕ) (f : ℕ → ℤ) {s t : List ℤ} → s ≡ t → tab n (λ l. get_or s l (pos 0) +ℤ f l) ≡ tab n (λ l. get_or t l (pos 0) +ℤ f l)
added-to n f e = ap (λ s. tab n (λ l. get_or s l (pos 0) +ℤ f l)) e

pub added-ext : (n : ℕ) (s : List ℤ) (f g : ℕ → ℤ) → ((l : ℕ) → l < n → f l ≡ g l) → tab n (λ l. get_or s l (pos 0) +ℤ f l) ≡ tab n (λ l. get_or s l (pos 0) +ℤ g l)
added-ext n s f g h = tab-ext n _ _ (λ l i. ap (λ z. get_or s l (pos 0) +ℤ z) (h l i))

-- P of the numbers x, which f tells
pub away-added : (n : ℕ) {x : List ℤ} (s : List ℤ) (f : ℕ → ℤ) → x ≡ tab n f → tab n (λ l. get_or s l (pos 0) +ℤ away (get_or x l (pos 0)) (2 ^ 31)) ≡ tab n (λ l. get_or s l (pos 0) +ℤ away (f l) (2 ^ 31))
away-added n s f e = added-ext n s _ _ (λ l h. ap (λ z. away z (2 ^ 31)) (ap (λ x. get_or x l (pos 0)) e ∙ get_d-tab f (pos 0) n l h))
