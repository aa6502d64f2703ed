-- The second line in the grammar of a burst file. No contract needs it.
use Rattle.std.specs.Prelude.{◌∷◌}
use Rattle.file_burst.specs.Head.Prelude.{List, [], ℕ}
use Rattle.file_burst.specs.declared.head.Header.{Header}

-- "those seven values (shot and read are Ls and Lr)", in the order of the names
abbrev pub seven_of : Header → List ℕ
seven_of header =
    header.shape.width ∷ header.shape.height ∷ header.shape.count ∷ header.reference ∷ header.shot ∷ header.read ∷ header.strength ∷ []
