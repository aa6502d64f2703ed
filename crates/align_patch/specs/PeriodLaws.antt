-- A column is read by its place in the period, and the next column's place is the next.
use Rattle.std.specs.Prelude.{◌≡◌, ◌+◌, ◌-◌, ◌*◌, ◌/◌, ◌%◌, ◌≤◌, ◌<◌, ◌+ℤ◌}
use Rattle.algebra.specs.Prelude.{refl, sym, ap, ◌∙◌, ℕ, zero, suc, arith, ℤ, pos, negsuc}
use Rattle.std.proofs.Common.{mod-lt, div-add-mod', eq-eqb, ne_eqb}
use Rattle.std.proofs.Math.Nat.{mod-eq_of_lt}
use Rattle.std.proofs.Math.Decide.{dec_lt}
use Rattle.std.proofs.Math.Arith.{digits_mod}
use Rattle.algebra.specs.Order.{zarith, add-pn}
use Rattle.geometry.specs.Read.{mirrored, inside}
use Rattle.geometry.specs.ReadLaws.{inside-same}
use Rattle.align_patch.specs.Period.{place_in, next_in}

module _ (size : ℕ) (h : 0 < size) where
  rest : (k : ℕ) → k % (2 * size) < 2 * size
  rest k = mod-lt k (omega arith)

  pub place-below : (z : ℤ) → place_in size z < 2 * size
  unfolding place_in
  place-below (pos k) = rest k
  place-below (negsuc k) = omega (arith, rest k)

  pub place-reads : (z : ℤ) → mirrored size (place_in size z) ≡ inside size z
  unfolding place_in inside mirrored
  place-reads (pos k) = refl
  place-reads (negsuc k) = omega (arith, rest k)

  wraps : (place : ℕ) → place + 1 ≡ 2 * size → next_in size place ≡ 0
  unfolding next_in
  wraps place e = rw (eq-eqb (place + 1) (2 * size) e)

  goes_on : (place : ℕ) → place + 1 < 2 * size → next_in size place ≡ place + 1
  unfolding next_in
  goes_on place l = rw (ne_eqb (place + 1) (2 * size) (λ e. omega arith))

  -- the remainder of the number after k
  after : (k : ℕ) → (k + 1) % (2 * size) ≡ next_in size (k % (2 * size))
  after k = by (dec_lt (k % (2 * size) + 1) (2 * size))
    where
      by : Dec (k % (2 * size) + 1 < 2 * size) → (k + 1) % (2 * size) ≡ next_in size (k % (2 * size))
      by (yes l) =
          let e : k + 1 ≡ k / (2 * size) * (2 * size) + (k % (2 * size) + 1) = omega (arith, div-add-mod' k (2 * size)) in
          ap (λ n. n % (2 * size)) e ∙ digits_mod (k / (2 * size)) l ∙ sym (goes_on (k % (2 * size)) l)
      by (no n) =
          let last : k % (2 * size) + 1 ≡ 2 * size = omega (arith, rest k) in
          let e : k + 1 ≡ (k / (2 * size) + 1) * (2 * size) + 0 = omega (arith, div-add-mod' k (2 * size)) in
          ap (λ n. n % (2 * size)) e ∙ digits_mod (k / (2 * size) + 1) (omega arith) ∙ sym (wraps (k % (2 * size)) last)

  -- one column further
  pub place-next : (z : ℤ) → place_in size (z +ℤ pos 1) ≡ next_in size (place_in size z)
  unfolding place_in
  place-next (pos k) = after k
  place-next (negsuc zero) =
      let first : 0 % (2 * size) ≡ 0 = mod-eq_of_lt (omega arith) in
      first ∙ sym (wraps (2 * size - 1 - 0 % (2 * size)) (omega arith))
  place-next (negsuc (suc k)) =
      let e : negsuc (suc k) +ℤ pos 1 ≡ negsuc k = omega (zarith, add-pn (negsuc (suc k)) (pos 1)) in
      ap (place_in size) e ∙ back (k % (2 * size)) (suc k % (2 * size)) (rest k) (rest (suc k)) (ap (λ n. n % (2 * size)) (omega arith) ∙ after k)
    where
      back : (r s : ℕ) → r < 2 * size → s < 2 * size → s ≡ next_in size r → 2 * size - 1 - r ≡ next_in size (2 * size - 1 - s)
      back r s l m e = by (dec_lt (r + 1) (2 * size))
        where
          by : Dec (r + 1 < 2 * size) → 2 * size - 1 - r ≡ next_in size (2 * size - 1 - s)
          by (yes b) =
              let f : s ≡ r + 1 = e ∙ goes_on r b in
              omega (arith, goes_on (2 * size - 1 - s) (omega arith))
          by (no n) =
              let last : r + 1 ≡ 2 * size = omega arith in
              let f : s ≡ 0 = e ∙ wraps r last in
              omega (arith, wraps (2 * size - 1 - s) (omega arith))

-- where all columns lie in the row, they are read as they stand
pub all-inside : (start width n x j : ℕ) (column : ℤ) → column ≡ pos x → x + n ≤ width → j < n → start + x + j ≡ start + inside width (column +ℤ pos j)
all-inside start width n x j column e h l = rw e (omega (arith, inside-same width (x + j) (omega arith)))
