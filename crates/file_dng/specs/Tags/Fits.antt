-- What is known of a strip once tests have let it through. Inner vocabulary: laws speak of it, no answer does.
use Rattle.std.specs.Prelude.{◌+◌, ◌*◌, ◌≤◌}
use Rattle.file_dng.specs.Tags.Prelude.{List, ℕ, length, Shape, Entry}
use Rattle.file_dng.specs.Tags.Refusals.{strip_start}

-- 19, 20 and 21: the samples of the strip stand in the file
pub record StripInside (file : List ℕ) (es : List Entry) (s : Shape) : Type 0 where
  pub inside : strip_start file es + 2 * (s.width * s.height) ≤ length file
