-- The tie rule.
use Rattle.std.specs.Prelude.{◌&&◌, ◌||◌, ◌+◌}
use Rattle.align_search.specs.Prelude.{Bool, ℕ, leb, ltb, nat_abs, Vector}
use Rattle.std.specs.Int.Signed.{lt_z, le_z}

-- |down|+|right|
abbrev pub city_block : Vector → ℕ
city_block o = nat_abs o.down + nat_abs o.right

-- "Ties: smaller |down|+|right| offset, then smaller down, then smaller right."
unfoldable pub earlier : Vector → Vector → Bool
earlier a b =
    ltb (city_block a) (city_block b) || leb (city_block a) (city_block b) && (lt_z a.down b.down || le_z a.down b.down && lt_z a.right b.right)
