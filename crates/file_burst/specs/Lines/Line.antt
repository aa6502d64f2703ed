-- A line of values, read off the front of the bytes.
use Rattle.std.specs.Prelude.{◌||◌, ◌∷◌, ◌+◌, ◌-◌, ◌*◌}
use Rattle.file_burst.specs.Lines.Prelude.{Bool, true, false, cond, not, List, [], ℕ, zero, suc, ltb, eqb}
use Rattle.refusals.specs.Numbers as no
use Rattle.refusals.specs.Tests.{refuse}
use Rattle.file_burst.specs.Lines.Part.{Part, refused, found, unless, mapped}

-- a decimal digit's number, and 10 for any other byte
abbrev pub digit_of : ℕ → ℕ
digit_of byte = cond (ltb byte 48) 10 (cond (ltb byte 58) (byte - 48) 10)

-- A value and the bytes after what ends it: the LF of its line, or the spaces before the next value
pub data Item : Type 0 where
  last : (value : ℕ) (rest : List ℕ) → Item
  more : (value : ℕ) (rest : List ℕ) → Item
  bad : Item

-- "one or more spaces between": the bytes after the spaces in front
unfoldable pub past_spaces : List ℕ → List ℕ
past_spaces [] = []
past_spaces (byte ∷ rest) = cond (eqb byte 32) (past_spaces rest) (byte ∷ rest)

-- `count` digits of the number `value` are followed by a byte that is no digit: an LF, a space, or what no line of values has
unfoldable pub after_digits : (count value byte : ℕ) → List ℕ → Item
after_digits count value byte rest =
    cond (eqb count 0) bad
    (cond (eqb byte 10) (last value rest)
    (cond (eqb byte 32) (more value (past_spaces rest)) bad))

-- "Values are 1 to 9 decimal digits, leading zeros allowed": what follows `count` digits of the number `value`
unfoldable pub digits_from : (count value : ℕ) → List ℕ → Item
digits_from count value [] = bad
digits_from count value (byte ∷ rest) =
    cond (eqb (digit_of byte) 10) (after_digits count value byte rest)
    (cond (eqb count 9) bad
    (digits_from (count + 1) (value * 10 + digit_of byte) rest))

abbrev pub item_of : List ℕ → Item
item_of bytes = digits_from 0 0 bytes

-- a line's item, where `others` reads the `left` values after it
abbrev pub after_item : (left : ℕ) (others : List ℕ → Part (List ℕ)) → Item → Part (List ℕ)
after_item left others (last value rest) = cond (eqb left 0) (found (value ∷ []) rest) (refused no.wrong_value_line)
after_item left others (more value rest) = mapped (λ values. value ∷ values) (others rest)
after_item left others bad = refused no.wrong_value_line

-- 14, "malformed value line"; "a line with too few or too many values is 14"
unfoldable pub values_of : (count : ℕ) → List ℕ → Part (List ℕ)
values_of zero bytes = refused no.wrong_value_line
values_of (suc count) bytes = after_item count (λ rest. values_of count rest) (item_of bytes)

unfoldable pub has_lf : List ℕ → Bool
has_lf [] = false
has_lf (byte ∷ rest) = cond (eqb byte 10) true (has_lf rest)

-- "A line without its LF is 15"
abbrev pub line_end : List ℕ → ℕ
line_end bytes = refuse no.file_end (not (has_lf bytes))

-- a line of `count` values, "by 15 and 14"
abbrev pub value_line : (count : ℕ) → List ℕ → Part (List ℕ)
value_line count bytes = unless (line_end bytes) (values_of count bytes)

-- some value is above the bound
unfoldable pub above : (bound : ℕ) → List ℕ → Bool
above bound [] = false
above bound (value ∷ values) = ltb bound value || above bound values
