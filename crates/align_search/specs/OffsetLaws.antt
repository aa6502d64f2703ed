-- The code's table is the square −4..4 sorted by the tie rule; and sorted it is each offset once, the earlier one first: a computed test of the order, and one of the square.
use Rattle.align_search.specs.Prelude.{refl, ap, ◌∙◌, Bool, true, false, cond, ℕ, zero, suc, lit<, get_or, ℤ, pos, nat_abs, Vector, tab, Within}
use Rattle.std.specs.Prelude.{T, ltb, eqb, leb, ◌≡◌, ◌≤◌, ◌<◌, ◌+ℤ◌, ◌-ℤ◌}
use Rattle.std.proofs.Common.{ltb→lt, leb→le, eqb→eq}
use Rattle.algebra.specs.Test.{both, both_l, both_r, all, all_sound}
use Rattle.algebra.specs.Order.{zarith, abs-pn, min-pn, add-pn, sub-pn}
use Rattle.sequences.specs.TabLaws.{get_d-tab}
use Rattle.align_search.specs.Vectors.{still}
use Rattle.align_search.specs.Ties.{earlier}
use Rattle.align_search.specs.Offsets.{square, placed, sorted, offset}
use Rattle.align_search.specs.Table.{downs, rights, tabled}

sorted-tabled : sorted square ≡ tab 81 tabled
unfolding square sorted placed earlier tab tabled downs rights
sorted-tabled = refl

-- the code's table keeps the rule
pub offset-tabled : (k : ℕ) → k < 81 → offset k ≡ tabled k
unfolding offset
offset-tabled k h = ap (λ l. get_or l k still) sorted-tabled ∙ get_d-tab tabled still 81 k h

abbrev same : Bool → Bool → Bool
same true b = b
same false true = false
same false false = true

same-eq : (a b : Bool) → T (same a b) → a ≡ b
same-eq true true t = refl
same-eq true false t = absurd t
same-eq false true t = absurd t
same-eq false false t = refl

ordered : T (all 81 (λ i. all 81 (λ k. same (ltb i k) (earlier (tabled i) (tabled k)))))
unfolding downs rights tabled earlier
ordered = tt

-- of two offsets the earlier one by the rule comes first
pub offset-order : (i k : ℕ) → i < 81 → k < 81 → ltb i k ≡ earlier (offset i) (offset k)
offset-order i k h l =
    rw (offset-tabled i h, offset-tabled k l)
    (same-eq (ltb i k) (earlier (tabled i) (tabled k))
    (all_sound 81 (λ k. same (ltb i k) (earlier (tabled i) (tabled k)))
    (all_sound 81 (λ i. all 81 (λ k. same (ltb i k) (earlier (tabled i) (tabled k)))) ordered i h) k l))

-- "offset zero first"
pub offset-zero : offset 0 ≡ still
unfolding tabled downs rights
offset-zero = offset-tabled 0 (lit< tt)

-- where the table has the parts d and r, plus 4
place : ℕ → ℕ → ℕ → ℕ
place zero d r = 0
place (suc n) d r = cond (both (eqb (get_or downs n 0) d) (eqb (get_or rights n 0) r)) n (place n d r)

abbrev has : ℕ → ℕ → ℕ → Bool
has k d r = both (ltb k 81) (both (eqb (get_or downs k 0) d) (eqb (get_or rights k 0) r))

whole : T (all 9 (λ d. all 9 (λ r. has (place 81 d r) d r)))
unfolding downs rights place
whole = tt

biased : (z : ℤ) → nat_abs z ≤ 4 → pos (nat_abs (z +ℤ pos 4)) -ℤ pos 4 ≡ z
biased z h =
    omega (zarith, abs-pn z, abs-pn (z +ℤ pos 4), min-pn (z +ℤ pos 4), add-pn z (pos 4), sub-pn (pos (nat_abs (z +ℤ pos 4))) (pos 4))

bias-most : (z : ℤ) → nat_abs z ≤ 4 → nat_abs (z +ℤ pos 4) < 9
bias-most z h = omega (zarith, abs-pn z, abs-pn (z +ℤ pos 4), min-pn z, min-pn (z +ℤ pos 4), add-pn z (pos 4))

-- each offset of −4..4 is one of them
pub offset_at : (o : Vector) → Within 4 o → (k : ℕ) × (k < 81) × (offset k ≡ o)
unfolding tabled
offset_at o w =
    let d = nat_abs (o.down +ℤ pos 4) in
    let r = nat_abs (o.right +ℤ pos 4) in
    let k = place 81 d r in
    let t =
    all_sound 9 (λ r. has (place 81 d r) d r)
    (all_sound 9 (λ d. all 9 (λ r. has (place 81 d r) d r)) whole d (bias-most o.down w.vertical)) r (bias-most o.right w.sideways) in
    let u = both_r (ltb k 81) (both (eqb (get_or downs k 0) d) (eqb (get_or rights k 0) r)) t in
    let h = ltb→lt k 81 (both_l (ltb k 81) (both (eqb (get_or downs k 0) d) (eqb (get_or rights k 0) r)) t) in (
      k,
      h,
      rw (
        offset-tabled k h,
        eqb→eq (get_or downs k 0) d (both_l (eqb (get_or downs k 0) d) (eqb (get_or rights k 0) r) u),
        eqb→eq (get_or rights k 0) r (both_r (eqb (get_or downs k 0) d) (eqb (get_or rights k 0) r) u),
        biased o.down w.vertical,
        biased o.right w.sideways,
      ),
    )

parts : T (all 81 (λ k. both (leb (get_or downs k 0) 8) (leb (get_or rights k 0) 8)))
unfolding downs rights
parts = tt

pub parts-most : (k : ℕ) → k < 81 → (get_or downs k 0 ≤ 8) × (get_or rights k 0 ≤ 8)
parts-most k h =
    let t = all_sound 81 (λ k. both (leb (get_or downs k 0) 8) (leb (get_or rights k 0) 8)) parts k h in (
      leb→le (get_or downs k 0) 8 (both_l (leb (get_or downs k 0) 8) (leb (get_or rights k 0) 8) t),
      leb→le (get_or rights k 0) 8 (both_r (leb (get_or downs k 0) 8) (leb (get_or rights k 0) 8) t),
    )

part-within : (n : ℕ) → n ≤ 8 → nat_abs (pos n -ℤ pos 4) ≤ 4
part-within n h = omega (zarith, abs-pn (pos n -ℤ pos 4), min-pn (pos n -ℤ pos 4), sub-pn (pos n) (pos 4))

-- and there is no other
pub offset-within : (k : ℕ) → k < 81 → Within 4 (offset k)
unfolding tabled
offset-within k h =
    rw (offset-tabled k h)
    record { vertical = part-within (get_or downs k 0) (parts-most k h).0; sideways = part-within (get_or rights k 0) (parts-most k h).1 }
