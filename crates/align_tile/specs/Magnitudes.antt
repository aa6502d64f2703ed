-- How large guesses and origins are.
use Rattle.std.specs.Prelude.{ℕ}

-- the parts of a guess: four times those of a coarse vector, which are at most 84
abbrev pub guess_most : ℕ
guess_most = 336

-- the parts of a tile's origin: 16 · 4096 + 16
abbrev pub origin_most : ℕ
origin_most = 65552
