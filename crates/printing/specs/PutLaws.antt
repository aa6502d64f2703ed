-- A text put after another is the two put as one: what is printed piece by piece is the sequence of the pieces.
use Rattle.printing.specs.Prelude.{refl, sym, ap, ap₂, ◌∙◌, ℕ, arith}
use mathlib.Core.List.{List, [], ◌∷◌, ◌++◌, append_assoc}
use Rattle.std.proofs.Common.{add_assoc, length-take-le, drop_at}
use Rattle.std.proofs.Math.Numerals.{add-one}
use Rattle.std.proofs.Math.ListN.{length, length-append, length-set}
use Rattle.std.specs.Prelude.{take, drop, set, ◌≡◌, ◌+◌, ◌≤◌, ◌<◌}
use Rattle.std.proofs.Math.Seq.{take_at, drop-drop, append_snoc, paste-zero}
use Rattle.std.proofs.lemmas.List.{set_split}
use Rattle.printing.specs.Put.{put, Printed}

module _ (l : List ℕ) (at : ℕ) (a : List ℕ) (h : at ≤ length l) where
  head-length : length (take at l ++ a) ≡ at + length a
  head-length = length-append (take at l) a ∙ ap (λ n. n + length a) (length-take-le at l h)

  take_put : take (at + length a) (put l at a) ≡ take at l ++ a
  unfolding put
  take_put = take_at (take at l ++ a) (drop (at + length a) l) (at + length a) head-length

  drop-put : (n : ℕ) → drop (at + length a + n) (put l at a) ≡ drop (at + length a + n) l
  unfolding put
  drop-put n = sym (drop-drop n (at + length a) _) ∙ ap (drop n) (drop_at (take at l ++ a) (drop (at + length a) l) (at + length a) head-length) ∙ drop-drop n (at + length a) l

  pub put-put : (b : List ℕ) → put (put l at a) (at + length a) b ≡ put l at (a ++ b)
  unfolding put
  put-put b = rw (take_put, drop-put (length b), ← append_assoc (take at l) a b, length-append, ← add_assoc)

module _ {l : List ℕ} {at : ℕ} where
  pub printed-none : Printed l at [] l at
  unfolding put
  printed-none = record { text = paste-zero l at []; place = omega arith; same = refl }

  -- one store
  pub printed-byte : {b : ℕ} → at < length l → Printed l at (b ∷ []) (set l at b) (at + 1)
  unfolding put
  printed-byte {b} h = record { text = rw (set_split l at b h, add-one, append_snoc); place = refl; same = length-set l at b }

  -- one text after another
  pub printed-then : {a b m r : List ℕ} {i j : ℕ} → at ≤ length l → Printed l at a m i → Printed m i b r j → Printed l at (a ++ b) r j
  printed-then {a} {b} {m} {r} {i} {j} h p q =
      record {
        text = q.text ∙ ap₂ (λ x y. put x y b) p.text p.place ∙ put-put l at a h b;
        place = omega (arith, length-append a b);
        same = q.same ∙ p.same;
      }

-- a text put at the start of a buffer is what it then starts with
pub printed-front : {l text m : List ℕ} {next : ℕ} → Printed l 0 text m next → take next m ≡ text
unfolding put
printed-front {l} {text} {m} {next} p = ap (take next) p.text ∙ take_at text (drop (0 + length text) l) next (omega (arith, p.place))
