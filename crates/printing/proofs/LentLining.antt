-- The invariant of a loop that prints one line into a lent buffer, value by value, each of at most `most` bytes.
use Rattle.std.specs.Prelude.{◌≡◌, ◌+◌, ◌-◌, ◌*◌, ◌≤◌, ◌<◌}
use Rattle.printing.specs.Prelude.{ap, List, ℕ, arith}
use native.Mathlib.Nat.{mul-suc}
use native.Mathlib.Numerals.{add-one}
use lib.ListN.{length, get_or, drop, drop_of_length-le}
use Rattle.printing.specs.Lines.{value, number_line}
use Rattle.printing.specs.LineLaws.{line-next}
use Rattle.printing.specs.Put.{Printed}
use Rattle.printing.specs.Printing.{Printing, printing-start, printing-turn, printing-done}

pub record Lining (most : ℕ) (before : List ℕ) (at : ℕ) (ns : List ℕ) (k : ℕ) (after : List ℕ) (next : ℕ) : Type 0 where
  pub count : k ≤ length ns
  pub bound : next ≤ at + most * k
  pub printing : Printing before at (number_line ns) (number_line (drop k ns)) after next

module _ {most : ℕ} {l : List ℕ} {at : ℕ} {ns : List ℕ} where
  pub lining-start : at ≤ length l → Lining most l at ns 0 l at
  lining-start h = record { count = omega arith; bound = omega arith; printing = printing-start h }

  pub lining-turn : {k n left i j : ℕ} {m r : List ℕ} → Lining most l at ns k m i → k < length ns → n ≡ get_or ns k 0 → left ≡ length ns - (k + 1) → Printed m i (value n left) r j → j ≤ i + most → Lining most l at ns (k + 1) r j
  lining-turn {k} {n} {left} {i} {j} {m} {r} w h e f p b =
      record {
        count = omega arith;
        bound = rw (add-one, mul-suc) (omega arith);
        printing = printing-turn w.printing (rw (e, f) (line-next ns k h)) p;
      }

  pub lining-done : {k i : ℕ} {r : List ℕ} → Lining most l at ns k r i → length ns ≤ k → (Printed l at (number_line ns) r i) × (i ≤ at + most * length ns)
  unfolding number_line
  lining-done {k} {i} {r} w h =
      let e : length ns ≡ k = omega arith in
      (printing-done w.printing (ap number_line (drop_of_length-le ns h)), rw e w.bound)
