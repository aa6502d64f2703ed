-- A row of pairs of tiles that is stored is held, and the row before it still is; the output's word of the two rows is the recipe's.
use mathlib.Core.Path.{◌≡◌, refl, sym, ap, ap₂, ◌∙◌, subst}
use Rattle.std.specs.Prelude.{◌+◌, ◌*◌, ◌/◌, ◌%◌, ◌≤◌, ◌<◌, ◌*ℤ◌}
use Rattle.merge_frame.specs.Prelude.{List, ℕ, arith, length, get_or, ℤ, pos, nat_abs, AllowedSize, TileSide, Merge, Scene, scene_at, scene_of, plane_output, taken_in, taken_most, row_words, slot_of, row_word, Stored}
use mathlib.Core.Logic.{⊎_elim}
use Rattle.algebra.specs.SumLaws.{sum_z-cong}
use Rattle.sequences.specs.Write.{written, written_in, written-before, written_after, written-length}
use Rattle.recipe.specs.Output.{weight_in}
use Rattle.recipe.specs.Tables.{side16}
use Rattle.recipe.specs.Tables32.{side32}
use Rattle.recipe.specs.Sides.{side_of}
use Rattle.recipe.specs.SideLaws.{by-table}
use Rattle.merge_gather.specs.Gather.{windowed, corrected}
use Rattle.merge_gather.specs.Work.{row_span, word_from}
use Rattle.merge_frame.specs.Progress.{Held}
use Rattle.merge_gather.specs.HoldLaws.{slots, sample-is, word-is}
use Rattle.merge_frame.proofs.Gathering.{gathered-by}

-- the row that is stored
module _ {side : ℕ} {s : Scene} {rowParity : ℕ} {row : ℕ} {d l : List ℤ} (w : Stored side s rowParity row d l) (room : slot_of side s.width row + row_words side s.width ≤ length d) where
  pub stored-long : length l ≡ length d
  stored-long = ap length w.is ∙ written-length d (slot_of side s.width row) (row_word side (taken_in s) rowParity row) (row_words side s.width) (pos 0) room

  stored-word : (k : ℕ) → k < row_words side s.width → get_or l (slot_of side s.width row + k) (pos 0) ≡ row_word side (taken_in s) rowParity row k
  stored-word k h =
      ap (λ x. get_or x (slot_of side s.width row + k) (pos 0)) w.is
      ∙ written_in d (slot_of side s.width row) (row_word side (taken_in s) rowParity row) (row_words side s.width) (pos 0) room k h

  pub stored-held : Held side s rowParity row l
  stored-held =
      record {
        words = record { room = omega (arith, stored-long); most = λ k h. subst (λ z. nat_abs z ≤ taken_most) (sym (stored-word k h)) (w.most k h) };
        is = stored-word;
      }

-- and the row before it
module _ {side : ℕ} {s : Scene} {rowParity : ℕ} {row : ℕ} {d l : List ℤ} (w : Stored side s rowParity (row + 1) d l) (room : 2 * row_words side s.width ≤ length d) (held : Held side s rowParity row d) where
  pub next-room : slot_of side s.width (row + 1) + row_words side s.width ≤ length d
  next-room = ⊎_elim (λ e. omega (arith, e)) (λ e. omega (arith, e)) (slots side s.width row)

  kept_word : (k : ℕ) → k < row_words side s.width → get_or l (slot_of side s.width row + k) (pos 0) ≡ get_or d (slot_of side s.width row + k) (pos 0)
  kept_word k h =
      ap (λ x. get_or x (slot_of side s.width row + k) (pos 0)) w.is
      ∙ ⊎_elim
      (λ e. written-before d (slot_of side s.width (row + 1)) (row_word side (taken_in s) rowParity (row + 1)) (row_words side s.width) (pos 0) next-room (slot_of side s.width row + k) (omega (arith, e)))
      (λ e. let place : slot_of side s.width (row + 1) + row_words side s.width + k ≡ slot_of side s.width row + k = omega (arith, e) in subst (λ j. get_or (written d (slot_of side s.width (row + 1)) (row_word side (taken_in s) rowParity (row + 1)) (row_words side s.width)) j (pos 0) ≡ get_or d j (pos 0)) place (written_after d (slot_of side s.width (row + 1)) (row_word side (taken_in s) rowParity (row + 1)) (row_words side s.width) (pos 0) next-room k))
      (slots side s.width row)

  pub held_kept : Held side s rowParity row l
  held_kept =
      record {
        words = record { room = omega (arith, stored-long w next-room, held.words.room); most = λ k h. subst (λ z. nat_abs z ≤ taken_most) (sym (kept_word k h)) (held.words.most k h) };
        is = λ k h. kept_word k h ∙ held.is k h;
      }

module _ {n : ℕ} (t : TileSide n) where
  half_is : (side_of n).half ≡ n / 2
  unfolding side16 side32
  half_is = by-table t (λ n s. s.half ≡ n / 2) refl refl

-- the output's word of two rows that are held
module _ (m : Merge) (samples : List ℕ) (vectors : List ℤ) (rowParity : ℕ) (work : List ℤ) (y top c : ℕ) where
  abbrev n : ℕ
  n = m.shape.side

  abbrev s : Scene
  s = scene_of m samples vectors

  pub output-word : TileSide n → AllowedSize m.shape.width → c < m.shape.width → Held n s rowParity (y / (n / 2)) work → Held n s rowParity (y / (n / 2) + 1) work
      → word_from samples work (row_span m.shape m.reference rowParity y top) m.shape.count c ≡ nat_abs (plane_output s rowParity (c % 2) y (c / 2))
  unfolding word_from row_span scene_at windowed
  output-word sided ok inside upper lower =
      ap nat_abs
      (ap₂ (λ t0 sum. corrected (side_of n) t0 sum s.others) (sample-is m.shape m.reference (taken_in s) rowParity work y top c samples)
      (sum_z-cong 4 _ _ (λ t h. ap (λ z. pos (weight_in (side_of n) (y % (n / 2)) (c / 2 % (n / 2)) t) *ℤ z) (word-is m.shape m.reference (taken_in s) rowParity work y top c sided ok inside upper lower t h)))
      ∙ sym (gathered-by s rowParity (c % 2) y (c / 2) (half_is sided)))
