-- How many tiles a level has.
use Rattle.std.specs.Prelude.{ℕ}

-- each way, and all of them: those of level 0 of a frame of 4096 by 4096
abbrev pub way_most : ℕ
way_most = 257

abbrev pub tiles_most : ℕ
tiles_most = 66049
