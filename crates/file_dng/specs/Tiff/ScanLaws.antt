-- A loop over the entries of the directory.
use Rattle.std.specs.Prelude.{◌≡◌, ◌∷◌, ◌++◌, ◌+◌, ◌-◌, ◌*◌, ◌≤◌, ◌<◌}
use Rattle.algebra.specs.Prelude.{sym, ap, ◌∙◌, true, false, cond, List, [], ℕ, suc, arith, eqb}
use Rattle.std.proofs.Common.{ne_eqb}
use Rattle.file_dng.specs.declared.tiff.Entry.{Entry}
use Rattle.file_dng.specs.declared.tiff.Wanted.{Wanted}
use Rattle.file_dng.specs.Tiff.Directory.{entry_at, entries_from, times_of}
use Rattle.file_dng.specs.Tiff.Fields.{right, no_field, first_field, field_at}

-- the entries from the one at index i on, of n
abbrev pub rest : List ℕ → (start n i : ℕ) → List Entry
rest file start n i = entries_from file (start + 12 * i) (n - i)

pub rest_all : (file : List ℕ) (start n : ℕ) → rest file start n 0 ≡ entries_from file start n
rest_all file start n =
    let a : start + 12 * 0 ≡ start = omega arith in
    let b : n - 0 ≡ n = omega arith in
    rw (a, b)

pub rest-none : (file : List ℕ) (start n i : ℕ) → n ≤ i → rest file start n i ≡ []
unfolding entries_from
rest-none file start n i h = let e : n - i ≡ 0 = omega arith in rw e

pub rest-step : (file : List ℕ) (start n i : ℕ) → i < n → rest file start n i ≡ entry_at file (start + 12 * i) ∷ rest file start n (i + 1)
unfolding entries_from
rest-step file start n i h =
    let e : n - i ≡ suc (n - (i + 1)) = omega arith in
    let a : start + 12 * (i + 1) ≡ start + 12 * i + 12 = omega arith in
    rw (e, a)

-- what is counted so far, with what is left, is the whole count: a loop's invariant
pub record Counted (file : List ℕ) (start n tag i seen : ℕ) : Type 0 where
  pub count : i ≤ n
  pub most : seen ≤ i
  pub is : seen + times_of tag (rest file start n i) ≡ times_of tag (entries_from file start n)

-- what is wanted is not among the entries passed: a loop's invariant
pub record Sought (file : List ℕ) (wanted : Wanted) (start n i : ℕ) : Type 0 where
  pub count : i ≤ n
  pub is : first_field file wanted (rest file start n i) ≡ first_field file wanted (entries_from file start n)

module _ {file : List ℕ} {start n tag : ℕ} where
  pub count-start : Counted file start n tag 0 0
  count-start = record { count = omega arith; most = omega arith; is = omega (arith, ap (times_of tag) (rest_all file start n)) }

  pub count_turn : {i seen one : ℕ} → Counted file start n tag i seen → i < n → one ≤ 1 → one ≡ cond (eqb (entry_at file (start + 12 * i)).tag tag) 1 0 → Counted file start n tag (i + 1) (seen + one)
  unfolding times_of
  count_turn {i} {seen} {one} w h l e = record { count = omega arith; most = omega (arith, w.most); is = omega (arith, w.is, e, step) }
    where
      step : times_of tag (rest file start n i) ≡ cond (eqb (entry_at file (start + 12 * i)).tag tag) 1 0 + times_of tag (rest file start n (i + 1))
      step = ap (times_of tag) (rest-step file start n i h)

  pub count-done : {i seen : ℕ} → Counted file start n tag i seen → n ≤ i → seen ≡ times_of tag (entries_from file start n)
  unfolding times_of
  count-done {i} {seen} w h = omega (arith, w.is, none)
    where
      none : times_of tag (rest file start n i) ≡ 0
      none = ap (times_of tag) (rest-none file start n i h)

module _ {file : List ℕ} {wanted : Wanted} {start n : ℕ} where
  pub seek-start : Sought file wanted start n 0
  seek-start = record { count = omega arith; is = ap (first_field file wanted) (rest_all file start n) }

  module _ {i : ℕ} (w : Sought file wanted start n i) (h : i < n) where
    step : cond (right wanted (entry_at file (start + 12 * i))) (field_at file (entry_at file (start + 12 * i))) (first_field file wanted (rest file start n (i + 1))) ≡ first_field file wanted (entries_from file start n)
    unfolding first_field
    step = sym (ap (first_field file wanted) (rest-step file start n i h)) ∙ w.is

    pub seek_hit : right wanted (entry_at file (start + 12 * i)) ≡ true → field_at file (entry_at file (start + 12 * i)) ≡ first_field file wanted (entries_from file start n)
    seek_hit e = rw e at step

    pub seek-turn : right wanted (entry_at file (start + 12 * i)) ≡ false → Sought file wanted start n (i + 1)
    seek-turn e = record { count = omega arith; is = rw e at step }

  pub seek-done : {i : ℕ} → Sought file wanted start n i → n ≤ i → no_field ≡ first_field file wanted (entries_from file start n)
  unfolding first_field
  seek-done {i} w h = sym (ap (first_field file wanted) (rest-none file start n i h)) ∙ w.is

-- an entry of another tag is passed over, wherever it stands
pub times-past : (tag : ℕ) (a : List Entry) (entry : Entry) (b : List Entry) → (entry.tag ≡ tag → ⊥) → times_of tag (a ++ entry ∷ b) ≡ times_of tag (a ++ b)
unfolding times_of
times-past tag [] entry b h = rw (ne_eqb _ _ h) (omega arith)
times-past tag (x ∷ a) entry b h = rw (times-past tag a entry b h)

pub field_past : (file : List ℕ) (wanted : Wanted) (a : List Entry) (entry : Entry) (b : List Entry) → (entry.tag ≡ wanted.tag → ⊥) → first_field file wanted (a ++ entry ∷ b) ≡ first_field file wanted (a ++ b)
unfolding first_field right
field_past file wanted [] entry b h = rw (ne_eqb _ _ h)
field_past file wanted (x ∷ a) entry b h = rw (field_past file wanted a entry b h)
