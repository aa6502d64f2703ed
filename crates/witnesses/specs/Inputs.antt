-- What the calls on a burst take: document 01's figure, and that with one thing changed, as in the examples of document 01's table of refused inputs.
use Rattle.witnesses.specs.Prelude.{false, List, [], ℕ, ℤ, pos, replicate, shaped, shape, plain, burst}
use Rattle.std.specs.Prelude.{Float, ◌∷◌}
use Rattle.std.specs.Float.{fin}
use Rattle.geometry.specs.declared.Shape.{Shape}
use Rattle.noise.specs.declared.Noise.{Noise}
use Rattle.noise.specs.declared.Noise.TheVariants.{Measured, Iso}
use Rattle.recipe.specs.declared.Tuning.{Tuning}
use Rattle.sanity.specs.Pedestal.{zero_black}

pub record Input : Type 0 where
  pub shape : Shape
  pub reference : ℕ
  pub noise : Noise
  pub tuning : Tuning
  pub samples : List ℕ
  pub vectors : List ℤ
  pub output : List ℕ
  pub work : List ℤ

-- m · 2^0
abbrev pub whole : ℕ → Float
whole m = fin false m (pos 0)

abbrev pub curve : (shot read : ℕ) → Noise
curve shot read = Measured (record { shot = whole shot; read = whole read })

-- "shot 0, read 4194304": the level Lr of a file, which is a read of 4096
abbrev pub dark : Noise
dark = curve 0 4096

abbrev pub tuned : (strength : ℕ) (black : List ℕ) (spatial : ℕ) → Tuning
tuned strength black spatial = record { strength = strength; black = black; spatial = spatial }

abbrev pub full : Tuning
full = tuned 1024 zero_black 0

-- lent buffers, whatever they hold
abbrev pub vectors : List ℤ
vectors = replicate 50 (pos 7)

abbrev pub work : List ℤ
work = replicate 8192 (pos 5)

-- one word for each of 25 tiles
abbrev pub residuals : List ℕ
residuals = replicate 25 9

abbrev pub input : Shape → (reference : ℕ) → Noise → Tuning → (samples : List ℕ) (vectors : List ℤ) (output : List ℕ) (work : List ℤ) → Input
input s reference noise tuning samples vectors output work =
    record { shape = s; reference = reference; noise = noise; tuning = tuning; samples = samples; vectors = vectors; output = output; work = work }

abbrev pub figure : Input
figure = input shape 0 dark full burst vectors (plain 9) work

abbrev pub width_96 : Input
width_96 = input (shaped 96 64 2 16 96) 0 dark full burst vectors (plain 9) work

abbrev pub nine_frames : Input
nine_frames = input (shaped 64 64 9 16 64) 0 dark full burst vectors (plain 9) work

abbrev pub reference_2 : Input
reference_2 = input shape 2 dark full burst vectors (plain 9) work

abbrev pub side_24 : Input
side_24 = input (shaped 64 64 2 24 64) 0 dark full burst vectors (plain 9) work

abbrev pub row_63 : Input
row_63 = input (shaped 64 64 2 16 63) 0 dark full burst vectors (plain 9) work

abbrev pub one_short : Input
one_short = input shape 0 dark full (replicate 8191 0) vectors (plain 9) work

abbrev pub no_vectors : Input
no_vectors = input shape 0 dark full burst [] (plain 9) work

abbrev pub one_over : Input
one_over = input shape 0 dark full burst vectors (replicate 4097 9) work

abbrev pub no_work : Input
no_work = input shape 0 dark full burst vectors (plain 9) []

abbrev pub iso_24 : Input
iso_24 = input shape 0 (Iso 24 (record { shot = whole 1; read = whole 1 })) full burst vectors (plain 9) work

abbrev pub shot_65 : Input
shot_65 = input shape 0 (curve 65 0) full burst vectors (plain 9) work

abbrev pub strength_1025 : Input
strength_1025 = input shape 0 dark (tuned 1025 zero_black 0) burst vectors (plain 9) work

abbrev pub black_256 : Input
black_256 = input shape 0 dark (tuned 1024 (0 ∷ 0 ∷ 256 ∷ 0 ∷ []) 0) burst vectors (plain 9) work

abbrev pub spatial_257 : Input
spatial_257 = input shape 0 dark (tuned 1024 zero_black 257) burst vectors (plain 9) work

-- nine tiles of side 32, and a filter
abbrev pub spatial_at_32 : Input
spatial_at_32 = input (shaped 64 64 2 32 64) 0 dark (tuned 1024 zero_black 1) burst (replicate 18 (pos 7)) (plain 9) work

abbrev pub sample_4096 : Input
sample_4096 = input shape 0 dark full (4096 ∷ replicate 8191 0) vectors (plain 9) work

abbrev pub part_173 : Input
part_173 = input shape 0 dark full burst (pos 173 ∷ replicate 49 (pos 0)) (plain 9) work
