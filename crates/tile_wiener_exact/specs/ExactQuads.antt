-- Inside the crates of the merge: a quad of G from that of B, with quotients in whole numbers. A side's quantum is 2^bits.
use Rattle.std.specs.Prelude.{◌/◌, ◌%◌}
use Rattle.tile_wiener_exact.specs.Prelude.{List, ℕ, pos, Float, binary64, of_int, either, exact_gains_by, number_of, quad_in}

-- at one noise number: the other part of a real bin is 0
unfoldable pub exact_quad_by : (bits noise k u : ℕ) (q : List Float) → List Float
exact_quad_by bits noise = quad_in (λ a. number_of (exact_gains_by bits noise a (of_int binary64 (pos 0))) 0) (exact_gains_by bits noise)

-- quad (u, l), at the noise numbers of both planes
unfoldable pub new_exactly_by : (bits first second u l : ℕ) → List Float → List Float
new_exactly_by bits first second u l = exact_quad_by bits (either first second (l % 2)) (l / 2) u
