-- Inner vocabulary, which no public contract reaches: the answers of the functions that scan the bytes of a file, which hold positions, as what stands at
-- those positions.
use Rattle.std.specs.Prelude.{Option, Some, None, Result, Ok, Err, ◌||◌, ◌∷◌}
use Rattle.file_burst.specs.Lines.Prelude.{Bool, cond, List, [], ℕ, zero, suc, eqb, drop}
use Rattle.file_burst.specs.Lines.Line.{Item, last, more, bad, item_of, above}
use Rattle.file_burst.specs.Lines.Part.{Part, refused, found, mapped}
use Rattle.refusals.specs.declared.Refusal.{Refusal}
use Rattle.refusals.specs.declared.Refusal.TheVariants.{ValueLine}
use Rattle.refusals.specs.Refused.{refusal_number}
use Rattle.file_burst.specs.declared.lines.Line.{Line}
use Rattle.file_burst.specs.declared.lines.Scan.{Scan}
use Rattle.file_burst.specs.declared.lines.Scan.TheVariants.{Last, More}

-- a digit's number, or 10 for any other byte
abbrev pub digit_in : Option ℕ → ℕ
digit_in (Some digit) = digit
digit_in None = 10

abbrev pub item_in : List ℕ → Option Scan → Item
item_in file (Some (Last v)) = last v.value (drop v.next file)
item_in file (Some (More v)) = more v.value (drop v.next file)
item_in file None = bad

-- of a line, whether a value is above the bound
abbrev pub line_in : List ℕ → Result Line Refusal → Part Bool
line_in file (Ok line) = found line.over (drop line.next file)
line_in file (Err refusal) = refused (refusal_number refusal)

abbrev pub malformed_line : Result Line Refusal
malformed_line = Err ValueLine

-- a line that has ended, where `left` of its values have not come
abbrev pub ended_line : (left next : ℕ) (over : Bool) → Result Line Refusal
ended_line left next over = cond (eqb left 0) (Ok (record { next = next; over = over })) malformed_line

-- of the values of a line, whether one is above the bound or `already` stands
abbrev pub judged : (already : Bool) (bound : ℕ) → Part (List ℕ) → Part Bool
judged already bound line = mapped (λ values. already || above bound values) line

-- an item's value and the bytes after it, where nothing but values is expected
abbrev pub value_in : Item → ℕ
value_in (last value rest) = value
value_in (more value rest) = value
value_in bad = 0

abbrev pub rest_in : Item → List ℕ
rest_in (last value rest) = rest
rest_in (more value rest) = rest
rest_in bad = []

-- the next `count` values, across the lines
unfoldable pub next_values : (count : ℕ) → List ℕ → List ℕ
next_values zero bytes = []
next_values (suc count) bytes = value_in (item_of bytes) ∷ next_values count (rest_in (item_of bytes))
