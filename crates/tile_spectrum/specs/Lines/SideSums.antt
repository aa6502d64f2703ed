-- The sum back from a halfcomplex line in halves, for any side whose cosines keep the rules: its two halves are the sums and the differences of the even
-- places' sum and the odd places' sum, and the even places of a line of twice the side are summed as a line of that side. So is half of the sum.
use Rattle.std.specs.Prelude.{◌≡◌, ◌∷◌, ◌+◌, ◌*◌, ◌/◌, ◌%◌, ◌<◌, ◌+ℤ◌, ◌-ℤ◌, ◌*ℤ◌}
use Rattle.tile_spectrum.specs.Lines.Prelude.{refl, sym, ap, ap₂, ◌∙◌, cond, [], ℕ, zero, suc, arith, eqb, lit<, ℤ, neg_ℤ, var, ◌⊞◌, ◌⊠◌, ⊖◌, ring, sum_z, Side, Rules, Doubled}
use Rattle.std.proofs.Common.{mul_assoc, eq-eqb, ne_eqb}
use Rattle.std.proofs.Math.Nat.{div-add-mod}
use Rattle.std.proofs.Math.Dec.{eqb-suc-zero}
use Rattle.std.proofs.Math.Arith.{mod-mul}
use Rattle.algebra.specs.SumLaws.{sum_z-cong, sum_z-neg}
use Rattle.tile_spectrum.specs.Lines.Halfcomplex.{half_z, basis_of, backward_of, half_basis_of, half_sum_of}
use Rattle.tile_spectrum.specs.Lines.Fold.{even_sum_of, odd_sum_of, even_half_of}
use Rattle.tile_spectrum.specs.Lines.SideFolds.{basis-even, basis-odd, basis-doubled}

-- a line f of 2·h numbers whose halves are the sums and the differences of e and o
pub record Halves (h : ℕ) (f e o : ℕ → ℤ) : Type 0 where
  pub low : (n : ℕ) → f n ≡ e n +ℤ o n
  pub high : (n : ℕ) → f (n + h) ≡ e n -ℤ o n

-- a sum over the even numbers and over the odd ones
by-parity : (m : ℕ) (f : ℕ → ℤ) → sum_z (2 * m) f ≡ sum_z m (λ k. f (2 * k)) +ℤ sum_z m (λ k. f (2 * k + 1))
unfolding sum_z
by-parity zero f = refl
by-parity (suc m) f =
    let next : 2 * suc m ≡ suc (suc (2 * m)) = omega arith in
    let odd : suc (2 * m) ≡ 2 * m + 1 = omega arith in
    ap (λ n. sum_z n f) next
    ∙ ap₂ (λ t j. t +ℤ f (2 * m) +ℤ f j) (by-parity m f) odd
    ∙ ring (sum_z m (λ k. f (2 * k)) ∷ sum_z m (λ k. f (2 * k + 1)) ∷ f (2 * m) ∷ f (2 * m + 1) ∷ []) (var 0 ⊞ var 1 ⊞ var 2 ⊞ var 3) ((var 0 ⊞ var 2) ⊞ (var 1 ⊞ var 3)) tt

-- ---- the halves of a sum, against any basis w that half a line further on is the same at even places and its negative at odd ones

module _ {s : Side} (r : Rules s) (w : (k n : ℕ) → ℤ) (even : (i n : ℕ) → w (2 * i) (n + s.half) ≡ w (2 * i) n) (odd : (i n : ℕ) → w (2 * i + 1) (n + s.half) ≡ neg_ℤ (w (2 * i + 1) n)) (z : ℕ → ℤ) where
  split : (n : ℕ) → sum_z s.side (λ k. z k *ℤ w k n) ≡ sum_z s.half (λ k. z (2 * k) *ℤ w (2 * k) n) +ℤ sum_z s.half (λ k. z (2 * k + 1) *ℤ w (2 * k + 1) n)
  split n = ap (λ m. sum_z m (λ k. z k *ℤ w k n)) r.whole ∙ by-parity s.half (λ k. z k *ℤ w k n)

  sum-halves : Halves s.half (λ n. sum_z s.side (λ k. z k *ℤ w k n)) (λ n. sum_z s.half (λ k. z (2 * k) *ℤ w (2 * k) n)) (λ n. sum_z s.half (λ k. z (2 * k + 1) *ℤ w (2 * k + 1) n))
  sum-halves =
      record {
        low = split;
        high = λ n. split (n + s.half)
            ∙ ap₂ ◌+ℤ◌ (sum_z-cong s.half _ _ (λ k l. ap (λ c. z (2 * k) *ℤ c) (even k n)))
            (sum_z-cong s.half _ (λ k. neg_ℤ (z (2 * k + 1) *ℤ w (2 * k + 1) n)) (λ k l. ap (λ c. z (2 * k + 1) *ℤ c) (odd k n) ∙ ring (z (2 * k + 1) ∷ w (2 * k + 1) n ∷ []) (var 0 ⊠ ⊖ var 1) (⊖ (var 0 ⊠ var 1)) tt)
            ∙ sum_z-neg s.half (λ k. z (2 * k + 1) *ℤ w (2 * k + 1) n));
      }

module _ {s : Side} (r : Rules s) where
  half-even : (i n : ℕ) → half_basis_of s (2 * i) (n + s.half) ≡ half_basis_of s (2 * i) n
  unfolding half_basis_of
  half-even i n = ap (λ c. cond (eqb (2 * i % s.half) 0) (half_z c) c) (basis-even r i n)

  -- an odd place is neither 0 nor n/2, and so stands against its basis
  odd_place : (i : ℕ) → (2 * i + 1) % s.half ≡ 0 → ⊥
  odd_place i e = go s.half (s.side / 4) ((2 * i + 1) / s.half) r.quarters (div-add-mod (2 * i + 1) s.half) e
    where
      go : (h q m : ℕ) → h ≡ 2 * q → h * m + (2 * i + 1) % s.half ≡ 2 * i + 1 → (2 * i + 1) % s.half ≡ 0 → ⊥
      go h q m e d z = omega (arith, ap (λ h. h * m) e, mul_assoc 2 q m, d, z)

  half-odd-is : (i n : ℕ) → half_basis_of s (2 * i + 1) n ≡ basis_of s (2 * i + 1) n
  unfolding half_basis_of
  half-odd-is i n = ap (λ b. cond b (half_z (basis_of s (2 * i + 1) n)) (basis_of s (2 * i + 1) n)) (ne_eqb ((2 * i + 1) % s.half) 0 (odd_place i))

  half-odd : (i n : ℕ) → half_basis_of s (2 * i + 1) (n + s.half) ≡ neg_ℤ (half_basis_of s (2 * i + 1) n)
  half-odd i n = half-odd-is i (n + s.half) ∙ basis-odd r i n ∙ ap neg_ℤ (sym (half-odd-is i n))

  odd-half : (z : ℕ → ℤ) (n : ℕ) → sum_z s.half (λ k. z k *ℤ half_basis_of s (2 * k + 1) n) ≡ odd_sum_of s z n
  unfolding odd_sum_of
  odd-half z n = sum_z-cong s.half _ _ (λ k l. ap (λ c. z k *ℤ c) (half-odd-is k n))

  module _ (z : ℕ → ℤ) where
    pub back-halves : Halves s.half (backward_of s z) (even_sum_of s (λ k. z (2 * k))) (odd_sum_of s (λ k. z (2 * k + 1)))
    unfolding backward_of even_sum_of odd_sum_of
    back-halves = sum-halves r (basis_of s) (basis-even r) (basis-odd r) z

    pub half-halves : Halves s.half (half_sum_of s z) (even_half_of s (λ k. z (2 * k))) (odd_sum_of s (λ k. z (2 * k + 1)))
    unfolding half_sum_of even_half_of
    half-halves =
        let both = sum-halves r (half_basis_of s) half-even half-odd z in
        record {
          low = λ n. both.low n ∙ ap (λ o. even_half_of s (λ k. z (2 * k)) n +ℤ o) (odd-half (λ k. z (2 * k + 1)) n);
          high = λ n. both.high n ∙ ap (λ o. even_half_of s (λ k. z (2 * k)) n -ℤ o) (odd-half (λ k. z (2 * k + 1)) n);
        }

-- ---- a line of twice the numbers: its even places are summed as the places of the shorter line

same-zero : (a b : ℕ) → a ≡ 2 * b → eqb a 0 ≡ eqb b 0
same-zero a zero e = eq-eqb a 0 (omega (arith, e))
same-zero a (suc b) e = ne_eqb a 0 (λ h. omega (arith, e, h)) ∙ sym (eqb-suc-zero b)

module _ {s t : Side} (r : Rules s) (q : Rules t) (d : Doubled s t) where
  place-doubled : (k : ℕ) → 2 * k % s.half ≡ 2 * (k % t.half)
  place-doubled k =
      let long : s.half ≡ t.half * 2 = omega (arith, d.line, q.whole) in
      let above : 0 < t.half = omega (arith, q.whole, t.side_above) in
      let half : 2 * k / 2 ≡ k = omega arith in
      let none : 2 * k % 2 ≡ 0 = omega arith in
      ap (λ m. 2 * k % m) long ∙ mod-mul (2 * k) above (lit< tt) ∙ ap₂ (λ a b. a % t.half * 2 + b) half none ∙ omega arith

  half-doubled : (k n : ℕ) → half_basis_of s (2 * k) n ≡ half_basis_of t k n
  unfolding half_basis_of
  half-doubled k n = ap₂ (λ b c. cond b (half_z c) c) (same-zero (2 * k % s.half) (k % t.half) (place-doubled k)) (basis-doubled r q d k n)

  module _ (z : ℕ → ℤ) (n : ℕ) where
    line-doubled : (v w : (k n : ℕ) → ℤ) → ((k n : ℕ) → v (2 * k) n ≡ w k n) → sum_z s.half (λ k. z k *ℤ v (2 * k) n) ≡ sum_z t.side (λ k. z k *ℤ w k n)
    line-doubled v w e = ap (λ m. sum_z m (λ k. z k *ℤ v (2 * k) n)) d.line ∙ sum_z-cong t.side _ _ (λ k l. ap (λ c. z k *ℤ c) (e k n))

    pub even-back : even_sum_of s z n ≡ backward_of t z n
    unfolding even_sum_of backward_of
    even-back = line-doubled (basis_of s) (basis_of t) (basis-doubled r q d)

    pub even-half : even_half_of s z n ≡ half_sum_of t z n
    unfolding even_half_of half_sum_of
    even-half = line-doubled (half_basis_of s) (half_basis_of t) half-doubled
