-- What the descriptions that C passes stand for.
use Rattle.std.specs.Prelude.{ℕ}
use Rattle.geometry.specs.declared.Shape.{Shape}
use Rattle.geometry.specs.Shape.{shaped}
use Rattle.noise.specs.declared.Noise.{Noise}
use Rattle.noise.specs.declared.Noise.TheVariants.{Measured, Iso}
use Rattle.recipe.specs.declared.Tuning.{Tuning}
use Rattle.c_types.specs.declared.Burst.{Burst}
use Rattle.c_types.specs.declared.Frames.{Frames}
use Rattle.c_types.specs.declared.BurstNoise.{BurstNoise}
use Rattle.c_types.specs.declared.IsoNoise.{IsoNoise}
use Rattle.c_types.specs.declared.MergeTuning.{MergeTuning}

-- "Width W and height H", "N [..] frames", a side (request L8), "a row length L" (request L9)
abbrev pub shape_of : Burst → (side : ℕ) → Shape
shape_of burst side = shaped burst.width burst.height burst.count side burst.row_length

-- frames without a reference (request L1): a burst of which the index is not read
abbrev pub of_frames : Frames → Burst
of_frames frames =
    record {
      width = frames.width;
      height = frames.height;
      count = frames.count;
      reference = 0;
      row_length = frames.row_length;
      black = frames.black;
    }

-- "a curve of two f64 numbers, shot and read"
abbrev pub measured : BurstNoise → Noise
measured noise = Measured (record { shot = noise.shot; read = noise.read })

-- "an ISO number with the curve for ISO 100"
abbrev pub iso_noise : IsoNoise → Noise
iso_noise noise = Iso noise.iso (record { shot = noise.shot; read = noise.read })

-- "Strength t = 0..1024", "s = 0..256 is the published s in 1/256" (request L13), and "The burst gains a black level for each of the four planes" (request L3)
abbrev pub tuned : Burst → MergeTuning → Tuning
tuned burst tuning = record { strength = tuning.strength; black = burst.black; spatial = tuning.spatial }
