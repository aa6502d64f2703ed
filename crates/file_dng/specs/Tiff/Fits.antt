-- What is known of an entry and of a field that were read. Inner vocabulary: contracts and laws speak of it, no definition of an answer does.
use Rattle.std.specs.Prelude.{◌≡◌, ◌≤◌, ◌<◌}
use Rattle.algebra.specs.Prelude.{List, ℕ}
use Rattle.file_dng.specs.declared.tiff.Entry.{Entry}
use Rattle.file_dng.specs.declared.tiff.Field.{Field}
use Rattle.file_dng.specs.Tiff.Directory.{entry_at}

-- what keeps sums of an entry's numbers small
pub record EntryFits (entry : Entry) : Type 0 where
  pub count_small : entry.count < 4294967296
  pub at_small : entry.at < 2199023255552

pub record EntryRead (file : List ℕ) (at : ℕ) (entry : Entry) : Type 0 where
  pub is : entry ≡ entry_at file at
  pub fits : EntryFits entry

-- a field that is found, and what keeps sums of its numbers small
pub record FieldRead (found field : Field) : Type 0 where
  pub is : field ≡ found
  pub size_small : field.size ≤ 8
  pub at_small : field.at < 2199023255552
