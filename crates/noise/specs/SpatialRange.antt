-- What V' is worked out for, inside the crates of the merge.
use Rattle.std.specs.Prelude.{◌*◌, ◌+◌, ◌≤◌}
use Rattle.algebra.specs.Prelude.{ℕ}

-- the bounds of refusals 9 and 24, and r's own for samples up to 4095; N is 1 to 8
pub record SpatialRange (s ls lr r frames : ℕ) : Type 0 where
  pub strength : s ≤ 256
  pub shot : ls ≤ 65536
  pub read : lr ≤ 4194304
  pub root : r ≤ 65520
  pub some : 1 ≤ frames
  pub few : frames ≤ 8

-- s·(Ls·r + 16·Lr)
abbrev pub scale_most : ℕ
scale_most = 256 * (65536 * 65520 + 16 * 4194304)
