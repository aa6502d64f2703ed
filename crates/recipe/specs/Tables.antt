-- Side 16, with document 01's tables.
use Rattle.std.specs.Prelude.{◌∷◌, ◌+◌, ◌%◌, ◌^◌}
use Rattle.algebra.specs.Prelude.{List, [], ℕ, lit<, get_or, ℤ, pos, neg_ℤ}
use Rattle.recipe.specs.Side.{Side}

-- C(0..15)
unfoldable pub cosines : List ℤ
cosines =
    pos 16384 ∷ pos 15137 ∷ pos 11585 ∷ pos 6270 ∷ pos 0 ∷ neg_ℤ (pos 6270) ∷ neg_ℤ (pos 11585) ∷ neg_ℤ (pos 15137) ∷ neg_ℤ (pos 16384) ∷ neg_ℤ (pos 15137) ∷ neg_ℤ (pos 11585) ∷ neg_ℤ (pos 6270) ∷ pos 0 ∷ pos 6270 ∷ pos 11585 ∷ pos 15137 ∷ []

unfoldable pub cosine16 : ℕ → ℤ
cosine16 k = get_or cosines k (pos 0)

-- S(k) = C(k+12), indices modulo 16
unfoldable pub sine16 : ℕ → ℤ
sine16 k = cosine16 ((k + 12) % 16)

-- w(0..15)
unfoldable pub windows : List ℕ
windows = 39 ∷ 345 ∷ 910 ∷ 1648 ∷ 2448 ∷ 3186 ∷ 3751 ∷ 4057 ∷ 4057 ∷ 3751 ∷ 3186 ∷ 2448 ∷ 1648 ∷ 910 ∷ 345 ∷ 39 ∷ []

unfoldable pub window16 : ℕ → ℕ
window16 i = get_or windows i 0

-- bins of scale 2^28, V = t·(Ls·r + 16·Lr)/16, Q = B/2^24 in sixteenths, P divided by 2^32, w of scale 4096
unfoldable pub side16 : Side
side16 =
    record {
      side = 16;
      half = 8;
      cosine = cosine16;
      sine = sine16;
      window = window16;
      scale = 2 ^ 28;
      parts = 16;
      noise_divisor = 16;
      quantum = 2 ^ 24;
      divisor = 2 ^ 32;
      weight = 2 ^ 24;
      side_above = lit< tt;
      scale_above = lit< tt;
      parts_above = lit< tt;
      quantum_above = lit< tt;
      divisor_above = lit< tt;
      weight_above = lit< tt;
      size_above = lit< tt;
    }
