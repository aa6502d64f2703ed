-- The definitions on bytes at the bytes of a list from a position on: what the byte there decides.
use Rattle.std.specs.Prelude.{◌≡◌, ◌+◌, ◌*◌, ◌^◌, ◌<◌, ◌≤◌}
use Rattle.file_burst.specs.Lines.Prelude.{true, false, List, ℕ, arith}
use native.Mathlib.Numerals.{add-one}
use native.Mathlib.Nat.{pow-succ'}
use lib.ListN.{length, get_or, drop, drop_of_length-le}
use borrow.Author.Tests.{eq-eqb, ne_eqb}
use Rattle.file_burst.specs.Lines.Line.{last, more, bad, digit_of, past_spaces, after_digits, digits_from, has_lf}
use Rattle.file_burst.specs.Lines.ScanLaws.{step}

module _ (s : List ℕ) (i : ℕ) where
  pub spaces-end : length s ≤ i → drop i s ≡ past_spaces (drop i s)
  unfolding past_spaces
  spaces-end h = rw (drop_of_length-le s h)

  pub lf-end : length s ≤ i → has_lf (drop i s) ≡ false
  unfolding has_lf
  lf-end h = rw (drop_of_length-le s h)

  pub digits-end : (n v : ℕ) → length s ≤ i → digits_from n v (drop i s) ≡ bad
  unfolding digits_from
  digits-end n v h = rw (drop_of_length-le s h)

  module _ (h : i < length s) where
    pub spaces-on : get_or s i 0 ≡ 32 → past_spaces (drop (i + 1) s) ≡ past_spaces (drop i s)
    unfolding past_spaces
    spaces-on e = rw (step s i h, eq-eqb _ _ e)

    pub spaces-off : (get_or s i 0 ≡ 32 → ⊥) → drop i s ≡ past_spaces (drop i s)
    unfolding past_spaces
    spaces-off e = rw (step s i h, ne_eqb _ _ e)

    pub lf-here : get_or s i 0 ≡ 10 → has_lf (drop i s) ≡ true
    unfolding has_lf
    lf-here e = rw (step s i h, eq-eqb _ _ e)

    pub lf-on : (get_or s i 0 ≡ 10 → ⊥) → has_lf (drop (i + 1) s) ≡ has_lf (drop i s)
    unfolding has_lf
    lf-on e = rw (step s i h, ne_eqb _ _ e)

    module _ (n v : ℕ) where
      pub digits-off : digit_of (get_or s i 0) ≡ 10 → digits_from n v (drop i s) ≡ after_digits n v (get_or s i 0) (drop (i + 1) s)
      unfolding digits_from
      digits-off e = rw (step s i h, eq-eqb _ _ e)

      pub digits-many : (digit_of (get_or s i 0) ≡ 10 → ⊥) → n ≡ 9 → digits_from n v (drop i s) ≡ bad
      unfolding digits_from
      digits-many e k = rw (step s i h, ne_eqb _ _ e, eq-eqb _ _ k)

      pub digits-on : (digit_of (get_or s i 0) ≡ 10 → ⊥) → (n ≡ 9 → ⊥) → digits_from (n + 1) (v * 10 + digit_of (get_or s i 0)) (drop (i + 1) s) ≡ digits_from n v (drop i s)
      unfolding digits_from
      digits-on e k = rw (step s i h, ne_eqb _ _ e, ne_eqb _ _ k)

module _ (n v b : ℕ) (t : List ℕ) where
  pub after_none : n ≡ 0 → after_digits n v b t ≡ bad
  unfolding after_digits
  after_none e = rw (eq-eqb _ _ e)

  module _ (some : n ≡ 0 → ⊥) where
    pub after_last : b ≡ 10 → after_digits n v b t ≡ last v t
    unfolding after_digits
    after_last e = rw (ne_eqb _ _ some, eq-eqb _ _ e)

    pub after-space : (b ≡ 10 → ⊥) → b ≡ 32 → after_digits n v b t ≡ more v (past_spaces t)
    unfolding after_digits
    after-space d e = rw (ne_eqb _ _ some, ne_eqb _ _ d, eq-eqb _ _ e)

    pub after-other : (b ≡ 10 → ⊥) → (b ≡ 32 → ⊥) → after_digits n v b t ≡ bad
    unfolding after_digits
    after-other d e = rw (ne_eqb _ _ some, ne_eqb _ _ d, ne_eqb _ _ e)

-- one digit more
pub digit-more : (v n d : ℕ) → v < 10 ^ n → d < 10 → v * 10 + d < 10 ^ (n + 1)
digit-more v n d h g = rw (add-one n, pow-succ') (omega arith)
