-- Vectors of whole samples: sums and multiples.
use Rattle.std.specs.Prelude.{◌+ℤ◌, ◌*ℤ◌}
use Rattle.align_search.specs.Prelude.{ℕ, pos, Vector}

abbrev pub still : Vector
still = record { down = pos 0; right = pos 0 }

infixl 6 ◌plus◌
abbrev pub ◌plus◌ : Vector → Vector → Vector
a plus b = record { down = a.down +ℤ b.down; right = a.right +ℤ b.right }

infixl 7 ◌times◌
abbrev pub ◌times◌ : Vector → ℕ → Vector
v times f = record { down = v.down *ℤ pos f; right = v.right *ℤ pos f }
