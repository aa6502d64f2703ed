-- The size of a DNG file's frame, and of a file that is refused the tag at fault.
use Rattle.file_dng.specs.Tags.Prelude.{List, ℕ, first, Shape, Entry}
use Rattle.refusals.specs.After.{after}
use Rattle.geometry.specs.Shape.{shaped}
use Rattle.file_dng.specs.declared.tags.DngSize.{DngSize}
use Rattle.file_dng.specs.Tags.Tags.{ImageWidth, ImageLength}
use Rattle.file_dng.specs.Tags.Refusals.{value_of, tag_tests}
use Rattle.file_dng.specs.Tags.Faults.{fault_tag}

-- a burst of the file's one frame: "Width and height must be the burst's"
abbrev pub lone_shape : List ℕ → List Entry → Shape
lone_shape file es = shaped (value_of file es ImageWidth) (value_of file es ImageLength) 1 16 (value_of file es ImageWidth)

-- the number of 19, 20 and 21 for that burst
unfoldable pub lone_refusal : List ℕ → List Entry → ℕ
lone_refusal file es = first (tag_tests file es (lone_shape file es))

-- the size, allowed or not; beside a refusal 0 and 0, and the tag at fault
unfoldable pub dng_size : List ℕ → List Entry → DngSize
dng_size file es =
    after (lone_refusal file es)
    (record { refusal = lone_refusal file es; tag = fault_tag (lone_refusal file es) file es (lone_shape file es); width = 0; height = 0 })
    (record { refusal = 0; tag = 0; width = value_of file es ImageWidth; height = value_of file es ImageLength })
