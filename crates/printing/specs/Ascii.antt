-- A text as the list of its ASCII codes.
use Rattle.std.specs.Prelude.{◌∷◌}
use Rattle.printing.specs.Prelude.{List, [], ℕ, code}
use Prim.Native.String.{String, [] as empty, ◌∷◌ as ◌then◌}

abbrev pub ascii : String → List ℕ
ascii empty = []
ascii (c then text) = code c ∷ ascii text
