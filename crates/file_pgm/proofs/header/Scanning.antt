-- The loop that reads the number of the digits from a place on.
use Rattle.std.specs.Prelude.{◌≡◌, ◌∷◌, ◌+◌, ◌-◌, ◌*◌, ◌≤◌, ◌<◌}
use Rattle.algebra.specs.Prelude.{refl, sym, ◌∙◌, List, ℕ, zero, suc, arith}
use native.Mathlib.Numerals.{add-one}
use lib.ListN.{length, get_or, drop, drop_of_length-le}
use lib.Seq.{drop-cons}
use borrow.Author.Tests.{le-leb, lt-leb}
use Rattle.file_pgm.specs.Header.Header.{leading}

-- the greatest number that four digits but `left` write
abbrev pub most : ℕ → ℕ
most zero = 9999
most (suc zero) = 999
most (suc (suc zero)) = 99
most (suc (suc (suc zero))) = 9
most (suc (suc (suc (suc n)))) = 0

most-all : (left : ℕ) → most left ≤ 9999
most-all zero = omega arith
most-all (suc zero) = omega arith
most-all (suc (suc zero)) = omega arith
most-all (suc (suc (suc zero))) = omega arith
most-all (suc (suc (suc (suc n)))) = omega arith

most-more : (left value d : ℕ) → left < 4 → value ≤ most (suc left) → d < 10 → value * 10 + d ≤ most left
most-more zero value d h g l = omega arith
most-more (suc zero) value d h g l = omega arith
most-more (suc (suc zero)) value d h g l = omega arith
most-more (suc (suc (suc zero))) value d h g l = omega arith
most-more (suc (suc (suc (suc n)))) value d h g l = absurd (omega arith)

-- what is left of the bytes says the same as all of them: the loop's invariant
pub record Scanning (s : List ℕ) (at left value i : ℕ) : Type 0 where
  pub count : left ≤ 4
  pub small : value ≤ most left
  pub is : leading left value (drop i s) ≡ leading 4 0 (drop at s)

-- what a return owes
abbrev pub Scanned : (s : List ℕ) (at value : ℕ) → Type 0
Scanned s at value = (value ≡ leading 4 0 (drop at s)) × (value ≤ 9999)

module _ {s : List ℕ} {at : ℕ} where
  pub scan-start : Scanning s at 4 0 at
  scan-start = record { count = omega arith; small = omega arith; is = refl }

  module _ {left value i : ℕ} (w : Scanning s at left value i) where
    pub scan-small : value ≤ 9999
    scan-small = omega (arith, w.small, most-all left)

    done : leading left value (drop i s) ≡ value → Scanned s at value
    done e = (sym e ∙ w.is, scan-small)

    pub scan-full : left ≤ 0 → Scanned s at value
    unfolding leading
    scan-full h = done (all left h)
      where
        all : (left : ℕ) → left ≤ 0 → leading left value (drop i s) ≡ value
        all zero h = refl
        all (suc left) h = absurd (omega arith)

    pub scan-end : length s ≤ i → Scanned s at value
    unfolding leading
    scan-end h = done (all left)
      where
        all : (left : ℕ) → leading left value (drop i s) ≡ value
        all zero = refl
        all (suc left) = rw (drop_of_length-le s h)

    module _ (h : i < length s) where
      step : drop i s ≡ get_or s i 0 ∷ drop (i + 1) s
      step = rw (add-one, drop-cons s i 0)

      pub scan-below : get_or s i 0 < 48 → Scanned s at value
      unfolding leading
      scan-below g = done (all left)
        where
          all : (left : ℕ) → leading left value (drop i s) ≡ value
          all zero = refl
          all (suc left) = rw (step, lt-leb 48 (get_or s i 0) g)

      pub scan-above : 48 ≤ get_or s i 0 → 57 < get_or s i 0 → Scanned s at value
      unfolding leading
      scan-above l g = done (all left)
        where
          all : (left : ℕ) → leading left value (drop i s) ≡ value
          all zero = refl
          all (suc left) = rw (step, le-leb 48 (get_or s i 0) l, lt-leb (get_or s i 0) 57 g)

      pub scan-turn : 0 < left → 48 ≤ get_or s i 0 → get_or s i 0 ≤ 57 → Scanning s at (left - 1) (value * 10 + (get_or s i 0 - 48)) (i + 1)
      unfolding leading
      scan-turn some l g = turn left some w
        where
          turn : (left : ℕ) → 0 < left → Scanning s at left value i → Scanning s at (left - 1) (value * 10 + (get_or s i 0 - 48)) (i + 1)
          turn zero some w = absurd (omega arith)
          turn (suc left) some w =
              let before : left ≡ suc left - 1 = omega arith in
              rw (← before)
              record {
                count = omega (arith, w.count);
                small = most-more left value (get_or s i 0 - 48) (omega (arith, w.count)) w.small (omega arith);
                is = rw (le-leb 48 (get_or s i 0) l, le-leb (get_or s i 0) 57 g) at (rw step at w.is);
              }
