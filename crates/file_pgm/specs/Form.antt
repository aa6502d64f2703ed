-- L2, the PGM file of a frame: "`P5`, LF, width, a space, height, LF, `4095`, LF, then each sample as two bytes, high byte first".
use Rattle.std.specs.Prelude.{◌≡◌, ◌&&◌, ◌++◌, ◌+◌, ◌*◌, ◌≤◌}
use Rattle.file_pgm.specs.Prelude.{Bool, true, cond, List, ℕ, length, get_or, size_allowed, pgm_header, bytes_of}

-- the whole file
unfoldable pub file_of : (width height : ℕ) (frame : List ℕ) → List ℕ
file_of width height frame = pgm_header width height ++ bytes_of frame

-- "W or H not allowed", the other way round
unfoldable pub sizes_allowed : (width height : ℕ) → Bool
sizes_allowed width height = size_allowed width && size_allowed height

-- the bytes are the file of a frame: of an allowed size, with no sample above 4095
pub record PgmFile (bytes : List ℕ) (width height : ℕ) (frame : List ℕ) : Type 0 where
  pub allowed : sizes_allowed width height ≡ true
  pub long : length frame ≡ width * height
  pub small : (k : ℕ) → get_or frame k 0 ≤ 4095
  pub is : bytes ≡ file_of width height frame

-- "exactly the right length": that of the file of a frame of W·H samples (`file-long`)
unfoldable pub file_length : (width height : ℕ) → ℕ
file_length width height = length (pgm_header width height) + 2 * (width * height)

-- the length for whoever lends the buffer: 0 where the size is not allowed
unfoldable pub pgm_length : (width height : ℕ) → ℕ
pgm_length width height = cond (sizes_allowed width height) (file_length width height) 0
