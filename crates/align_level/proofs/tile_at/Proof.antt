-- The side is twice the half step, and the origins are those of the definition.
use Rattle.std.specs.Prelude.{◌≡◌, ◌*◌}
use Rattle.align_level.specs.Prelude.{ℕ, arith, rules, ℤ, Level, origin, Tile}
use Rattle.algebra.specs.Back.{back}
use Rattle.align_level.specs.Fields.{level_at, level_tile}
use Rattle.align_level.proofs.tile_at as of

made : (l : Level) (half row column : ℕ) (d r : ℤ) → half ≡ l.half → 2 * half ≡ l.side → d ≡ origin half row → r ≡ origin half column → ◌≡◌ {A = Tile} (record { side = 2 * half; origin = record { down = d; right = r } }) (level_tile l row column)
unfolding level_tile
made l half row column d r h s e f = rw (s, e, f, h)

returns : of.Tie.Need-returns
returns c = let a = c.before.before.before.args in
    let h = c.before.before.half_of-half in
    let d = c.before.origin in
    let r = c.origin-2 in
    rw (back d.result d.type_inv, back r.result r.type_inv)
    (made (level_at a.side a.level) h.result a.row a.column d.result r.result h.ensures.is h.ensures.twice d.ensures.0 r.ensures.0, record { small = omega arith; eights = omega arith; near = record { vertical = d.ensures.1.most; sideways = r.ensures.1.most } })

pub tile_at_spec : {M : Type 1} → of.Statement.statement M
tile_at_spec = of.Tie.close (of.Tie.spec
    (λ c κs. search rules) (λ c κs. search rules) (λ c κs. search rules) (λ c. search rules)
    returns)
