-- How the lent vectors are laid out: one layout for align, which writes it, merge, which reads it, and the report, which cuts it.
use Rattle.std.specs.Prelude.{◌+◌, ◌*◌, ◌/◌, ◌%◌}
use Rattle.algebra.specs.Prelude.{cond, List, ℕ, zero, suc, ltb, get_or, take, drop, ℤ, pos}
use Rattle.sequences.specs.Tab.{tab}
use Rattle.geometry.specs.declared.Shape.{Shape}
use Rattle.geometry.specs.declared.vectors.Vector.{Vector}
use Rattle.geometry.specs.Shape.{vector_length}
use Rattle.geometry.specs.Tiles.{tile_columns, frame_parts}

-- "For each other frame in rising index": the k-th frame beside the reference
unfoldable pub other_frame : (reference k : ℕ) → ℕ
other_frame reference k = cond (ltb k reference) k (k + 1)

-- "tiles go row by row, each as down, right": where the vector of a tile stands, for the k-th other frame
unfoldable pub vector_place : Shape → (k row column : ℕ) → ℕ
vector_place s k row column = k * frame_parts s + 2 * (row * tile_columns s + column)

unfoldable pub down_at : Shape → List ℤ → (k row column : ℕ) → ℤ
down_at s vectors k row column = get_or vectors (vector_place s k row column) (pos 0)

unfoldable pub right_at : Shape → List ℤ → (k row column : ℕ) → ℤ
right_at s vectors k row column = get_or vectors (vector_place s k row column + 1) (pos 0)

-- the vector of the tile at a row and a column of tiles
abbrev pub VectorField : Type 0
VectorField = ℕ → ℕ → Vector

-- the same from the list's side: the vector of tile number k of a field of so many columns, and the number i of its parts
abbrev pub numbered : (columns : ℕ) → VectorField → ℕ → Vector
numbered columns f k = f (k / columns) (k % columns)

unfoldable pub part : ℕ → Vector → ℤ
part zero v = v.down
part (suc k) v = v.right

unfoldable pub word : (columns : ℕ) → VectorField → ℕ → ℤ
word columns f i = part (i % 2) (numbered columns f (i / 2))

-- and of the fields of all other frames; `list-down` and `list_right` (VectorLaws): each stands at its place
unfoldable pub word_of : Shape → (ℕ → VectorField) → ℕ → ℤ
word_of s f i = word (tile_columns s) (f (i / frame_parts s)) (i % frame_parts s)

unfoldable pub vector_list : Shape → (ℕ → VectorField) → List ℤ
vector_list s f = tab (vector_length s) (word_of s f)

-- the parts of the k-th other frame, of so many each
unfoldable pub parts_of : (count : ℕ) → List ℤ → (k : ℕ) → List ℤ
parts_of count vectors k = take count (drop (k * count) vectors)
