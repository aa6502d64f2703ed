-- What the theorems speak of: the words of one frame, and frames that are all alike.
use Rattle.std.specs.Prelude.{◌≡◌, ◌*◌, ◌/◌, ◌%◌, ◌<◌}
use Rattle.sanity.specs.Prelude.{List, ℕ, tab, Shape, Image, sample_at, Sampled, SamplesFit}

-- the words of an image of so many rows and columns, "row by row"
unfoldable pub image_words : (height width : ℕ) → Image → List ℕ
image_words height width image = tab (width * height) (λ k. image (k / width) (k % width))

-- the samples of a burst's frame, row by row and without spare words
unfoldable pub frame_words : Shape → List ℕ → (frame : ℕ) → List ℕ
frame_words s samples frame = image_words s.height s.width (sample_at s samples frame)

-- a burst that refusals 1 to 4, 11 and 23 let through
pub record Burst (s : Shape) (reference : ℕ) (samples : List ℕ) : Type 0 where
  pub sampled : Sampled s samples
  pub below : reference < s.count
  pub fit : SamplesFit s samples

-- two images of so many rows and columns are equal inside
pub record Same (height width : ℕ) (a b : Image) : Type 0 where
  pub at : (row column : ℕ) → row < height → column < width → a row column ≡ b row column

-- every frame of a burst is the reference over again
pub record Alike (s : Shape) (reference : ℕ) (samples : List ℕ) : Type 0 where
  pub words : (frame : ℕ) → frame < s.count → frame_words s samples frame ≡ frame_words s samples reference
