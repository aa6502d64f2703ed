-- Inside this crate: both ends of a row that is stored are held, and those of the row before it still are.
use Rattle.std.specs.Prelude.{◌≡◌, ◌+◌, ◌-◌, ◌*◌, ◌≤◌, ◌<◌}
use Rattle.range_frame.specs.Prelude.{sym, ap, subst, ◌∙◌, List, ℕ, arith, length, get_or, drop, ℤ, pos, nat_abs, Scene, row_words, slot_of, RowHeld}
use Rattle.std.proofs.Common.{inl, inr, ⊎_elim, length-drop, get_or-drop}
use Rattle.merge_tiles.specs.Sum.{Taking, taken_most}
use Rattle.range_tiles.specs.EndRows.{least_slot, RowAt, Outside, EndsStored}
use Rattle.range_tiles.specs.EndRowLaws.{slot-most}
use Rattle.merge_gather.specs.HoldLaws.{slots}
use Rattle.range_frame.specs.Held.{EndsHeld}

-- a row's words that stand in the work area, or in its part from `base` on
module _ {width : ℕ} {taken : Taking} {rowParity row : ℕ} where
  row-held : {l : List ℤ} → RowAt width taken rowParity row (slot_of 16 width row) l → slot_of 16 width row + row_words 16 width ≤ length l → RowHeld 16 width taken rowParity row l
  row-held w room = record { words = record { room = room; most = λ k h. subst (λ z. nat_abs z ≤ taken_most) (sym (w.is k h)) (w.most k h) }; is = w.is }

  part_at : (base : ℕ) {l : List ℤ} → RowAt width taken rowParity row (base + slot_of 16 width row) l → RowAt width taken rowParity row (slot_of 16 width row) (drop base l)
  part_at base {l} w =
      record {
        is = λ k h.
            let place : base + (slot_of 16 width row + k) ≡ base + slot_of 16 width row + k = omega arith in
            get_or-drop base l (slot_of 16 width row + k) (pos 0) ∙ ap (λ j. get_or l j (pos 0)) place ∙ w.is k h;
        most = w.most;
      }

  -- a row stays where its words do
  row_kept : {d l : List ℤ} → length l ≡ length d → ((k : ℕ) → k < row_words 16 width → get_or l (slot_of 16 width row + k) (pos 0) ≡ get_or d (slot_of 16 width row + k) (pos 0)) → RowHeld 16 width taken rowParity row d → RowHeld 16 width taken rowParity row l
  row_kept same e w =
      record {
        words = record { room = omega (arith, same, w.words.room); most = λ k h. subst (λ z. nat_abs z ≤ taken_most) (sym (e k h)) (w.words.most k h) };
        is = λ k h. e k h ∙ w.is k h;
      }

-- the words of a row are none of the next one's
module _ (width row k : ℕ) (h : k < row_words 16 width) where
  others-first : Outside (slot_of 16 width (row + 1)) (row_words 16 width) (slot_of 16 width row + k)
  others-first = ⊎_elim (λ e. inl (omega (arith, e, h))) (λ e. inr (omega (arith, e, h))) (slots 16 width row)

  others-least : Outside (least_slot width (row + 1)) (row_words 16 width) (2 * row_words 16 width + (slot_of 16 width row + k))
  others-least = ⊎_elim (λ e. inl (omega (arith, e, h))) (λ e. inr (omega (arith, e, h))) (slots 16 width row)

module _ {lower upper : Scene} {rowParity : ℕ} {d l : List ℤ} where
  pub ends_held : {row : ℕ} → EndsStored lower upper rowParity row d l → 4 * row_words 16 lower.width ≤ length d → EndsHeld lower upper rowParity row l
  ends_held {row} w room =
      let most = slot-most 16 lower.width row in
      record {
        greatest = row-held w.greatest (omega (arith, most, w.same));
        least = row-held (part_at (2 * row_words 16 lower.width) w.least) (omega (arith, most, w.same, length-drop (2 * row_words 16 lower.width) l));
      }

  pub ends-kept : {row : ℕ} → EndsStored lower upper rowParity (row + 1) d l → EndsHeld lower upper rowParity row d → EndsHeld lower upper rowParity row l
  ends-kept {row} w held =
      record {
        greatest = row_kept w.same first held.greatest;
        least = row_kept (length-drop base l ∙ ap (λ n. n - base) w.same ∙ sym (length-drop base d)) (λ k h. get_or-drop base l (slot_of 16 lower.width row + k) (pos 0) ∙ second k h ∙ sym (get_or-drop base d (slot_of 16 lower.width row + k) (pos 0))) held.least;
      }
    where
      base : ℕ
      base = 2 * row_words 16 lower.width

      first : (k : ℕ) → k < row_words 16 lower.width → get_or l (slot_of 16 lower.width row + k) (pos 0) ≡ get_or d (slot_of 16 lower.width row + k) (pos 0)
      first k h = w.kept _ (others-first lower.width row k h) (inl (omega (arith, slot-most 16 lower.width row, h)))

      second : (k : ℕ) → k < row_words 16 lower.width → get_or l (base + (slot_of 16 lower.width row + k)) (pos 0) ≡ get_or d (base + (slot_of 16 lower.width row + k)) (pos 0)
      second k h = w.kept _ (inr (omega (arith, slot-most 16 lower.width (row + 1)))) (others-least lower.width row k h)
