-- The loop that puts the two bytes of each sample.
use Rattle.std.specs.Prelude.{◌≡◌, ◌∷◌, ◌+◌, ◌*◌, ◌/◌, ◌%◌, ◌≤◌, ◌<◌}
use Rattle.algebra.specs.Prelude.{refl, ap, ◌∙◌, List, [], ℕ, arith}
use native.Mathlib.Numerals.{add-one}
use lib.ListN.{length, get_or, drop, set, drop_of_length-le}
use lib.Seq.{drop-cons}
use Rattle.printing.specs.Printing.{Printing, printing-start, printing-turn, printing-done}
use Rattle.printing.specs.Put.{Printed}
use Rattle.printing.specs.PutLaws.{printed-byte, printed-then}
use Rattle.file_pgm.specs.Samples.Samples.{bytes_of}

-- m is l with the bytes of the first i samples from a place on: the loop's invariant
pub record Framing (l : List ℕ) (at : ℕ) (frame : List ℕ) (i : ℕ) (m : List ℕ) : Type 0 where
  pub count : i ≤ length frame
  pub room : at + 2 * length frame ≤ length l
  pub same : length m ≡ length l
  pub printing : Printing l at (bytes_of frame) (bytes_of (drop i frame)) m (at + 2 * i)

module _ {l : List ℕ} {at : ℕ} {frame : List ℕ} where
  pub frame-start : at + 2 * length frame ≤ length l → Framing l at frame 0 l
  frame-start h = let none : at + 2 * 0 ≡ at = omega arith in record { count = omega arith; room = h; same = refl; printing = rw none (printing-start (omega arith)) }

  -- one sample's two bytes
  pub frame-turn : {i : ℕ} {m : List ℕ} → Framing l at frame i m → i < length frame
      → Framing l at frame (i + 1) (set (set m (at + 2 * i) (get_or frame i 0 / 256)) (at + 2 * i + 1) (get_or frame i 0 % 256))
  unfolding bytes_of
  frame-turn {i} {m} w h =
      let room = w.room in
      let same = w.same in
      let sample = get_or frame i 0 in
      let first : Printed m (at + 2 * i) (sample / 256 ∷ []) (set m (at + 2 * i) (sample / 256)) (at + 2 * i + 1) = printed-byte (omega arith) in
      let long = first.same in
      let second = printed-then (omega arith) first (printed-byte {b = sample % 256} (omega arith)) in
      let next : at + 2 * i + 1 + 1 ≡ at + 2 * (i + 1) = omega arith in
      let pair = rw next at second in
      record {
        count = omega arith;
        room = room;
        same = pair.same ∙ same;
        printing = printing-turn w.printing (rw (add-one, drop-cons frame i 0)) pair;
      }

  pub frame-done : {i : ℕ} {m : List ℕ} → Framing l at frame i m → length frame ≤ i → Printed l at (bytes_of frame) m (at + 2 * length frame)
  unfolding bytes_of
  frame-done {i} {m} w h =
      let e : length frame ≡ i = omega arith in
      rw e (printing-done w.printing (ap bytes_of (drop_of_length-le frame h)))
