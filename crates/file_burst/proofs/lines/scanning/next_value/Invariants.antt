use Rattle.std.proofs.Common.{◌≡◌, ◌≤◌, ◌<◌, ◌-◌, ◌^◌}
use Rattle.file_burst.specs.Lines.Prelude.{drop}
use Rattle.file_burst.specs.Lines.Line.{digits_from, item_of}
use Rattle.file_burst.proofs.lines.scanning.next_value.Given as goal

-- the bytes from the position on make of the digits passed the item that starts at `at`
abbrev pub invariant-loop-i : goal.invariant-loop-i
invariant-loop-i l =
    record {
      count : l.i - l.fn.at ≤ 9;
      behind : l.fn.at ≤ l.i;
      small : l.value < 10 ^ (l.i - l.fn.at);
      is : digits_from (l.i - l.fn.at) l.value (drop l.i l.fn.file) ≡ item_of (drop l.fn.at l.fn.file);
    }
