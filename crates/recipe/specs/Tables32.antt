-- Side 32, with the tables of request L8.
use Rattle.std.specs.Prelude.{◌∷◌, ◌+◌, ◌%◌, ◌^◌}
use Rattle.algebra.specs.Prelude.{List, [], ℕ, lit<, get_or, ℤ, pos, neg_ℤ}
use Rattle.recipe.specs.Side.{Side}

-- C(0..31)
unfoldable pub cosines32 : List ℤ
cosines32 =
    pos 16384 ∷ pos 16069 ∷ pos 15137 ∷ pos 13623 ∷ pos 11585 ∷ pos 9102 ∷ pos 6270 ∷ pos 3196 ∷ pos 0 ∷ neg_ℤ (pos 3196) ∷ neg_ℤ (pos 6270) ∷ neg_ℤ (pos 9102) ∷ neg_ℤ (pos 11585) ∷ neg_ℤ (pos 13623) ∷ neg_ℤ (pos 15137) ∷ neg_ℤ (pos 16069) ∷ neg_ℤ (pos 16384) ∷ neg_ℤ (pos 16069) ∷ neg_ℤ (pos 15137) ∷ neg_ℤ (pos 13623) ∷ neg_ℤ (pos 11585) ∷ neg_ℤ (pos 9102) ∷ neg_ℤ (pos 6270) ∷ neg_ℤ (pos 3196) ∷ pos 0 ∷ pos 3196 ∷ pos 6270 ∷ pos 9102 ∷ pos 11585 ∷ pos 13623 ∷ pos 15137 ∷ pos 16069 ∷ []

unfoldable pub cosine32 : ℕ → ℤ
cosine32 k = get_or cosines32 k (pos 0)

-- S(k) = C(k+24), indices modulo 32
unfoldable pub sine32 : ℕ → ℤ
sine32 k = cosine32 ((k + 24) % 32)

-- w(0..31)
unfoldable pub windows32 : List ℕ
windows32 =
    10 ∷ 88 ∷ 242 ∷ 465 ∷ 749 ∷ 1083 ∷ 1453 ∷ 1847 ∷ 2249 ∷ 2643 ∷ 3013 ∷ 3347 ∷ 3631 ∷ 3854 ∷ 4008 ∷ 4086 ∷ 4086 ∷ 4008 ∷ 3854 ∷ 3631 ∷ 3347 ∷ 3013 ∷ 2643 ∷ 2249 ∷ 1847 ∷ 1453 ∷ 1083 ∷ 749 ∷ 465 ∷ 242 ∷ 88 ∷ 10 ∷ []

unfoldable pub window32 : ℕ → ℕ
window32 i = get_or windows32 i 0

-- bins of scale 2^28, V = t·(Ls·r + 32·Lr)/128, Q = B/2^26 in quarters, P divided by 2^32, w of scale 4096
unfoldable pub side32 : Side
side32 =
    record {
      side = 32;
      half = 16;
      cosine = cosine32;
      sine = sine32;
      window = window32;
      scale = 2 ^ 28;
      parts = 4;
      noise_divisor = 128;
      quantum = 2 ^ 26;
      divisor = 2 ^ 32;
      weight = 2 ^ 24;
      side_above = lit< tt;
      scale_above = lit< tt;
      parts_above = lit< tt;
      quantum_above = lit< tt;
      divisor_above = lit< tt;
      weight_above = lit< tt;
      size_above = lit< tt;
    }
