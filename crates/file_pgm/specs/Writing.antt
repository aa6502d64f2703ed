-- Writing a frame into a lent byte buffer: "Writing tests 1, 6, 16, 11".
use Rattle.std.specs.Prelude.{◌≡◌, ◌∷◌, ◌*◌}
use Rattle.file_pgm.specs.Prelude.{not, List, [], ℕ, length, refuse, first, after, length_refusal, above_refusal}
use Rattle.refusals.specs.Numbers as no
use Rattle.file_pgm.specs.Form.{file_of, file_length, sizes_allowed}

-- 1: "W or H not allowed"; 6: "a frame buffer of wrong length"; 16: "a byte buffer of wrong length when writing"
unfoldable pub write_refusal : (width height : ℕ) (frame bytes : List ℕ) → ℕ
write_refusal width height frame bytes =
    first
    (refuse no.size (not (sizes_allowed width height))
    ∷ length_refusal no.wrong_output_length (width * height) (length frame)
    ∷ length_refusal no.byte_length (file_length width height) (length bytes)
    ∷ above_refusal frame
    ∷ [])

-- what writing answers, and every byte that it leaves
pub record WritesPgm (width height : ℕ) (frame bytes bytes' : List ℕ) (number : ℕ) : Type 0 where
  pub answer : number ≡ write_refusal width height frame bytes
  pub stored : bytes' ≡ after (write_refusal width height frame bytes) bytes (file_of width height frame)
