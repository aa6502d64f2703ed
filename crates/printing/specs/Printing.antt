-- The invariant of each loop that prints: what is put so far and what is left to put are the whole text.
use Rattle.printing.specs.Prelude.{refl, sym, ap, ◌∙◌, ℕ, length}
use Rattle.std.specs.Prelude.{List, [], ◌++◌, ◌≡◌, ◌≤◌}
use Rattle.std.proofs.Common.{append_assoc, append-nil}
use Rattle.printing.specs.Put.{Printed}
use Rattle.printing.specs.PutLaws.{printed-none, printed-then}

pub record Printing (before : List ℕ) (at : ℕ) (whole rest after : List ℕ) (next : ℕ) : Type 0 where
  pub bytes : List ℕ
  pub inside : at ≤ length before
  pub printed : Printed before at bytes after next
  pub split : bytes ++ rest ≡ whole

module _ {l : List ℕ} {at : ℕ} {whole : List ℕ} where
  pub printing-start : at ≤ length l → Printing l at whole whole l at
  printing-start h = record { bytes = []; inside = h; printed = printed-none; split = refl }

  pub printing-turn : {rest piece more m r : List ℕ} {i j : ℕ} → Printing l at whole rest m i → rest ≡ piece ++ more → Printed m i piece r j → Printing l at whole more r j
  printing-turn {rest} {piece} {more} {m} {r} {i} {j} w e p =
      record {
        bytes = w.bytes ++ piece;
        inside = w.inside;
        printed = printed-then w.inside w.printed p;
        split = append_assoc w.bytes piece more ∙ ap (λ x. w.bytes ++ x) (sym e) ∙ w.split;
      }

  pub printing-done : {rest r : List ℕ} {j : ℕ} → Printing l at whole rest r j → rest ≡ [] → Printed l at whole r j
  printing-done {rest} {r} {j} w e =
      let s : w.bytes ≡ whole = sym (append-nil w.bytes) ∙ ap (λ x. w.bytes ++ x) (sym e) ∙ w.split in
      rw s at w.printed
