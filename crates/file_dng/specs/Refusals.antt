-- The tests of the reader, in their order: 19, 20, 21, "before 1, 2, 3 (frame index not below N), 4 and 11" (request L7), with 23 "tested before 4"
-- (request L9).
use Rattle.std.specs.Prelude.{◌∷◌, ◌++◌, ◌*◌}
use Rattle.file_dng.specs.Prelude.{List, [], ℕ, first, Shape, sample_length, length_refusal, frame_tests, Entry, strip_start, tag_tests, strip_refusal}
use Rattle.refusals.specs.Numbers as no

-- "before 1, 2, 3 (frame index not below N), 4": of the burst, the frame's index and the length of the lent samples. 23 is the last of `frame_tests`
unfoldable pub room_tests : Shape → (frame room : ℕ) → List ℕ
room_tests s frame room = frame_tests s frame ++ length_refusal no.wrong_sample_length (sample_length s) room ∷ []

-- all of them
unfoldable pub dng_refusal : List ℕ → List Entry → Shape → (frame room : ℕ) → ℕ
dng_refusal file es s frame room =
    first (tag_tests file es s ++ (room_tests s frame room ++ strip_refusal file (strip_start file es) (s.width * s.height) ∷ []))
