-- What a burst file holds.
use Rattle.file_burst.specs.Prelude.{List, ℕ, Header}

pub record FileBurst : Type 0 where
  pub header : Header
  pub samples : List ℕ
