-- Inside the crates of the range: a row stored pair by pair, both ends of each: its record, and how it starts, goes on and ends.
use Rattle.std.specs.Prelude.{◌≡◌, ◌+◌, ◌-◌, ◌*◌, ◌/◌, ◌%◌, ◌≤◌, ◌<◌}
use Rattle.range_tiles.specs.Prelude.{refl, sym, subst, ◌∙◌, List, ℕ, arith, length, get_or, ℤ, pos, cell, Scene, greatest_at, least_at, Taking, PairTaken, row_words, slot_of, row_word, Spread}
use Rattle.std.proofs.Common.{inl, ⊎_elim}
use Rattle.std.proofs.Math.Decide.{ℕ_discrete}
use Rattle.sequences.specs.Write.{written, written_in, written-before, written_after, written-length}
use Rattle.geometry.specs.Fits.{TileSide}
use Rattle.merge_tiles.specs.Toward.{Toward, toward-same, toward-on, goal}
use Rattle.merge_tiles.specs.StoreLaws.{Aimed, Placed, placed-start, placed-keep, placed-nearer, placed-turn, placed-word, placed-most}
use Rattle.range_tiles.specs.EndSums.{end_taken}
use Rattle.range_tiles.specs.EndRows.{least_slot, Outside, EndsStored}

pub slot-most : (side width row : ℕ) → slot_of side width row ≤ row_words side width
unfolding slot_of
slot-most side width row = by (ℕ_discrete (row % 2) 0)
  where
    by : Dec (row % 2 ≡ 0) → slot_of side width row ≤ row_words side width
    by (yes e) = rw e (omega arith)
    by (no d) = let this : row % 2 ≡ 1 = omega arith in rw this (omega arith)

pub sixteen : TileSide 16
sixteen = record { is = inl refl }

-- words outside a part that is written over
outside-written : (d : List ℤ) (at : ℕ) (f : ℕ → ℤ) (n : ℕ) → at + n ≤ length d → (k : ℕ) → Outside at n k → get_or (written d at f n) k (pos 0) ≡ get_or d k (pos 0)
outside-written d at f n room k =
    ⊎_elim (λ h. written-before d at f n (pos 0) room k h)
    (λ h. let place : at + n + (k - (at + n)) ≡ k = omega arith in subst (λ j. get_or (written d at f n) j (pos 0) ≡ get_or d j (pos 0)) place (written_after d at f n (pos 0) room (k - (at + n))))

module _ (lower upper : Scene) (rowParity row : ℕ) (d : List ℤ) where
  abbrev width : ℕ
  width = lower.width

  abbrev greatests : Taking
  greatests = end_taken greatest_at lower upper

  abbrev leasts : Taking
  leasts = end_taken least_at lower upper

  -- the work area with the row's greatest sums, and the words that it shall have
  abbrev with_greatest : List ℤ
  with_greatest = written d (slot_of 16 width row) (row_word 16 greatests rowParity row) (row_words 16 width)

  abbrev pub aim : ℕ → ℤ
  aim = goal (pos 0) with_greatest (least_slot width row) (row_word 16 leasts rowParity row) (row_words 16 width)

-- l is d after the first n pairs
pub record EndStoring (lower upper : Scene) (rowParity row : ℕ) (d : List ℤ) (n : ℕ) (l : List ℤ) : Type 0 where
  pub room : 4 * row_words 16 lower.width ≤ length d
  pub toward : Toward (pos 0) (aim lower upper rowParity row d) d l
  pub greatest : Placed 16 lower.width (end_taken greatest_at lower upper) rowParity row (slot_of 16 lower.width row) n l
  pub least : Placed 16 lower.width (end_taken least_at lower upper) rowParity row (least_slot lower.width row) n l

module _ (lower upper : Scene) (rowParity row : ℕ) (d : List ℤ) where
  pub ends-start : 4 * row_words 16 lower.width ≤ length d → EndStoring lower upper rowParity row d 0 d
  ends-start room =
      record {
        room = room;
        toward = toward-same;
        greatest = placed-start 16 lower.width (end_taken greatest_at lower upper) rowParity row (slot_of 16 lower.width row);
        least = placed-start 16 lower.width (end_taken least_at lower upper) rowParity row (least_slot lower.width row);
      }

  module _ (room : 4 * row_words 16 lower.width ≤ length d) where
    first-room : slot_of 16 lower.width row + row_words 16 lower.width ≤ length d
    first-room = omega (arith, slot-most 16 lower.width row)

    long : length (with_greatest lower upper rowParity row d) ≡ length d
    long = written-length d (slot_of 16 lower.width row) (row_word 16 (end_taken greatest_at lower upper) rowParity row) (row_words 16 lower.width) (pos 0) first-room

    second-room : least_slot lower.width row + row_words 16 lower.width ≤ length (with_greatest lower upper rowParity row d)
    second-room = omega (arith, slot-most 16 lower.width row, long)

    greatest-aim : Aimed 16 lower.width (end_taken greatest_at lower upper) rowParity row (slot_of 16 lower.width row) (aim lower upper rowParity row d)
    greatest-aim =
        record {
          at = λ k h.
              written-before (with_greatest lower upper rowParity row d) (least_slot lower.width row) (row_word 16 (end_taken least_at lower upper) rowParity row) (row_words 16 lower.width) (pos 0) second-room (slot_of 16 lower.width row + k) (omega (arith, h))
              ∙ written_in d (slot_of 16 lower.width row) (row_word 16 (end_taken greatest_at lower upper) rowParity row) (row_words 16 lower.width) (pos 0) first-room k h;
        }

    least-aim : Aimed 16 lower.width (end_taken least_at lower upper) rowParity row (least_slot lower.width row) (aim lower upper rowParity row d)
    least-aim = record { at = written_in (with_greatest lower upper rowParity row d) (least_slot lower.width row) (row_word 16 (end_taken least_at lower upper) rowParity row) (row_words 16 lower.width) (pos 0) second-room }

    -- the words outside both
    outside-aim : (k : ℕ) → Outside (slot_of 16 lower.width row) (row_words 16 lower.width) k → Outside (least_slot lower.width row) (row_words 16 lower.width) k → aim lower upper rowParity row d k ≡ get_or d k (pos 0)
    outside-aim k a b =
        outside-written (with_greatest lower upper rowParity row d) (least_slot lower.width row) (row_word 16 (end_taken least_at lower upper) rowParity row) (row_words 16 lower.width) second-room k b
        ∙ outside-written d (slot_of 16 lower.width row) (row_word 16 (end_taken greatest_at lower upper) rowParity row) (row_words 16 lower.width) first-room k a

  module _ (wide : lower.width % 64 ≡ 0) {n : ℕ} where
    pub ends-turn : {l a b c r : List ℤ} {g t : List (List ℤ)} → EndStoring lower upper rowParity row d n l → n < lower.width / 16 + 1
        → PairTaken 16 (end_taken greatest_at lower upper) (record { parity = rowParity; row = row; column = n }) g
        → PairTaken 16 (end_taken least_at lower upper) (record { parity = rowParity; row = row; column = n }) t
        → Spread (0 < n) (λ i j. cell (pos 0) g i (0 + j)) (slot_of 16 lower.width row + 512 * (n - 1)) 16 16 16 l a
        → Spread (n < lower.width / 16) (λ i j. cell (pos 0) g i (16 + j)) (slot_of 16 lower.width row + (512 * n + 256)) 16 16 16 a b
        → Spread (0 < n) (λ i j. cell (pos 0) t i (0 + j)) (least_slot lower.width row + 512 * (n - 1)) 16 16 16 b c
        → Spread (n < lower.width / 16) (λ i j. cell (pos 0) t i (16 + j)) (least_slot lower.width row + (512 * n + 256)) 16 16 16 c r
        → EndStoring lower upper rowParity row d (n + 1) r
    ends-turn w h greatest least a b c e =
        let first = slot_of 16 lower.width row in
        let second = least_slot lower.width row in
        let up = greatest-aim w.room in
        let down = least-aim w.room in
        let nearer = placed-nearer 16 lower.width (end_taken greatest_at lower upper) rowParity row first sixteen wide up w.greatest h greatest a b in
        let kept = placed-keep 16 lower.width (end_taken least_at lower upper) rowParity row second sixteen wide down nearer w.least in
        let nearest = placed-nearer 16 lower.width (end_taken least_at lower upper) rowParity row second sixteen wide down kept h least c e in
        record {
          room = w.room;
          toward = toward-on w.toward (toward-on nearer nearest);
          greatest = placed-keep 16 lower.width (end_taken greatest_at lower upper) rowParity row first sixteen wide up nearest (placed-turn 16 lower.width (end_taken greatest_at lower upper) rowParity row first sixteen wide up w.greatest h greatest a b);
          least = placed-turn 16 lower.width (end_taken least_at lower upper) rowParity row second sixteen wide down kept h least c e;
        }

    pub ends-done : {l : List ℤ} → EndStoring lower upper rowParity row d n l → lower.width / 16 + 1 ≤ n → EndsStored lower upper rowParity row d l
    ends-done w h =
        record {
          same = w.toward.same;
          greatest = record {
            is = placed-word 16 lower.width (end_taken greatest_at lower upper) rowParity row (slot_of 16 lower.width row) sixteen wide w.greatest h;
            most = placed-most 16 lower.width (end_taken greatest_at lower upper) rowParity row (slot_of 16 lower.width row) sixteen wide w.greatest h;
          };
          least = record {
            is = placed-word 16 lower.width (end_taken least_at lower upper) rowParity row (least_slot lower.width row) sixteen wide w.least h;
            most = placed-most 16 lower.width (end_taken least_at lower upper) rowParity row (least_slot lower.width row) sixteen wide w.least h;
          };
          kept = λ k a b. let e = outside-aim w.room k a b in w.toward.keeps k (sym e) ∙ e;
        }
