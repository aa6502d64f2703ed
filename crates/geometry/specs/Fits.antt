-- What is known of a burst and its lent buffers once the tests have let them through. Inner vocabulary: `requires` and laws speak of it, no answer does.
use Rattle.algebra.specs.Prelude.{List, ℕ, length, get_or, ℤ, pos, nat_abs}
use Rattle.std.specs.Prelude.{◌⊎◌, ◌≡◌, ◌+◌, ◌%◌, ◌≤◌, ◌<◌}
use Rattle.geometry.specs.declared.Shape.{Shape}
use Rattle.geometry.specs.Shape.{sample_length, vector_length, output_length, work_length}
use Rattle.geometry.specs.Read.{sample_at}

-- refusals 1, 2 and 23
pub record AllowedSize (size : ℕ) : Type 0 where
  pub least : 64 ≤ size
  pub most : size ≤ 4096
  pub whole : size % 64 ≡ 0

pub record Allowed (s : Shape) : Type 0 where
  pub wide : AllowedSize s.width
  pub high : AllowedSize s.height
  pub some : 1 ≤ s.count
  pub few : s.count ≤ 8
  pub row_least : s.width ≤ s.pitch
  pub row-most : s.pitch ≤ s.width + 256

-- refusal 22
pub record TileSide (side : ℕ) : Type 0 where
  pub is : (side ≡ 16) ⊎ (side ≡ 32)

-- a sample's frame, row and column
pub record Placed (s : Shape) (frame row column : ℕ) : Type 0 where
  pub frame_in : frame < s.count
  pub row_in : row < s.height
  pub column-in : column < s.width

-- the samples of a burst, as many as its shape says
pub record Sampled (s : Shape) (samples : List ℕ) : Type 0 where
  pub allowed : Allowed s
  pub long : length samples ≡ sample_length s

-- refusals 1 to 5, 22 and 23, and then 6 and 7
pub record BurstFits (s : Shape) (reference samples vectors : ℕ) : Type 0 where
  pub allowed : Allowed s
  pub sided : TileSide s.side
  pub reference_below : reference < s.count
  pub samples_long : samples ≡ sample_length s
  pub vectors_long : vectors ≡ vector_length s

pub record AlignFits (s : Shape) (reference samples vectors work : ℕ) : Type 0 where
  pub burst : BurstFits s reference samples vectors
  pub work_long : work ≡ work_length s

pub record MergeFits (s : Shape) (reference samples vectors output work : ℕ) : Type 0 where
  pub burst : BurstFits s reference samples vectors
  pub output_long : output ≡ output_length s
  pub work_long : work ≡ work_length s

-- refusal 11: by frame, row and column
pub record SamplesFit (s : Shape) (samples : List ℕ) : Type 0 where
  pub most : (frame row column : ℕ) → frame < s.count → row < s.height → column < s.width → sample_at s samples frame row column ≤ 4095

-- the same of a plain list: a tile's row, or a file's values
pub record ValuesFit (values : List ℕ) : Type 0 where
  pub most : (k : ℕ) → get_or values k 0 ≤ 4095

-- refusal 12
pub record VectorsFit (vectors : List ℤ) : Type 0 where
  pub most : (k : ℕ) → nat_abs (get_or vectors k (pos 0)) ≤ 172
