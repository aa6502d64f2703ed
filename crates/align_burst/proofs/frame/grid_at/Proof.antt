-- The counts are those of the level's size.
use native.Mathlib.Nat.{div-le_self}
use Rattle.std.specs.Prelude.{◌≡◌, ◌/◌}
use Rattle.align_burst.specs.Prelude.{Shape, level_size, tile_count, level_tiles, Grid, level_at, ℕ, arith, rules}
use Rattle.align_burst.specs.Sites.{grid_at}
use Rattle.align_burst.proofs.frame.grid_at as of

tile-count-requires : of.Tie.Need-tile_count-requires
tile-count-requires c κs = let a = c.before.before.before.args in record { some = omega arith; most = omega arith; size_most = omega (arith, div-le_self a.shape.height c.before.scale_of-scale.result) }

tile-count-requires-2 : of.Tie.Need-tile_count-requires-2
tile-count-requires-2 c κs = let a = c.before.before.before.before.before.args in record { some = omega arith; most = omega arith; size_most = omega (arith, div-le_self a.shape.width c.before.before.before.scale_of-scale.result) }

made : (shape : Shape) (level at half scale r k : ℕ) → half ≡ (level_at shape.side level).half → scale ≡ (level_at shape.side level).scale → r ≡ tile_count half (shape.height / scale) → k ≡ tile_count half (shape.width / scale) → ◌≡◌ {A = Grid} (record { at = at; rows = r; columns = k }) (grid_at shape level at)
unfolding grid_at level_tiles level_size
made shape level at half scale r k eh es er ek = rw (er, ek, eh, es)

returns : of.Tie.Need-returns
returns c = let r = c.before.before in
    let s = r.before.before in
    let a = s.before.before.args in
    made a.shape a.level a.at _ _ _ _ s.before.half_of-half.ensures.is s.scale_of-scale.ensures.0 r.tile_count.ensures.is c.tile_count-2.ensures.is

pub grid_at_spec : {M : Type 1} → of.Statement.statement M
grid_at_spec = of.Tie.close (of.Tie.spec
    (λ c κs. search rules) (λ c κs. search rules) (λ c. search rules) tile-count-requires
    (λ c. search rules) tile-count-requires-2 returns)
