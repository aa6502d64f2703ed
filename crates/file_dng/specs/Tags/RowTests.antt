-- Inner vocabulary, which no public contract reaches: the tests of a row, by their names in the code, and the tags that they speak of.
use Rattle.file_dng.specs.Tags.Prelude.{Bool, List, ℕ, Entry}
use Rattle.file_dng.specs.Tags.Refusals.{absent, value_outside, not_once, demand_missed}
use Rattle.file_dng.specs.Tags.Tags.{tag_at}
use Rattle.file_dng.specs.Tags.Faults.{demand_tag}
use Rattle.file_dng.specs.declared.tags.tests.RowTest.{RowTest}
use Rattle.file_dng.specs.declared.tags.tests.RowTest.TheVariants.{Outside, NotOnce, Absent, Missed}

abbrev pub row_hit : RowTest → List ℕ → List Entry → (row : ℕ) → Bool
row_hit Outside file es row = value_outside file es row
row_hit NotOnce file es row = not_once es row
row_hit Absent file es row = absent file es row
row_hit Missed file es row = demand_missed file es row

abbrev pub row_tag : RowTest → (row : ℕ) → ℕ
row_tag Outside row = (tag_at row).tag
row_tag NotOnce row = (tag_at row).tag
row_tag Absent row = (tag_at row).tag
row_tag Missed row = demand_tag row
