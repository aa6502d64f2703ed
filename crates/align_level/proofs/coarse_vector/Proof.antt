-- The vector's two words are among the coarse level's.
use Rattle.std.specs.Prelude.{◌≡◌, ◌+◌, ◌*◌, ◌<◌, ◌*ℤ◌}
use Rattle.align_level.specs.Prelude.{List, ℕ, arith, get_or, ℤ, pos, Vector, ◌times◌}
use native.Mathlib.Nat.{add_assoc}
use Rattle.geometry.specs.ReadLaws.{cell_below}
use Rattle.algebra.specs.Back.{back}
use Rattle.align_level.specs.Grids.{field_at}
use Rattle.align_level.proofs.coarse_vector as of

below : (s : of.Tie.Start) → s.args.row * s.args.coarse.columns + s.args.column < s.args.coarse.rows * s.args.coarse.columns
below s = cell_below s.args.row s.args.column s.args.coarse.rows s.args.coarse.columns s.requires.row_below s.requires.column_below

mul-k : of.Tie.Need-overflow_mul-k
mul-k c = omega (arith, below c.before, c.before.requires.vectors.room)

add-k : of.Tie.Need-overflow_add-k
add-k c = omega (arith, below c.before, c.before.requires.vectors.room)

mul-k-2 : of.Tie.Need-overflow_mul-k-2
mul-k-2 c = omega (arith, below c.before, c.before.requires.vectors.room)

add-k-2 : of.Tie.Need-overflow_add-k-2
add-k-2 c = let s = c.before.before in omega (arith, below s, s.requires.vectors.room)

coarse-part-requires : of.Tie.Need-coarse_part-down-requires
coarse-part-requires c κs = let s = c.before.before in record { inside = omega (arith, below s, s.requires.vectors.room); small = s.requires.vectors.most _ (omega (arith, below s)); factor-most = s.requires.factor-most }

add-coarse-part : of.Tie.Need-overflow_add-k-3
add-coarse-part c = let s = c.before.before.before in omega (arith, below s, s.requires.vectors.room)

coarse-part-requires-2 : of.Tie.Need-coarse_part-right-requires
coarse-part-requires-2 c κs = let s = c.before.before.before in
    let k = 2 * (s.args.row * s.args.coarse.columns + s.args.column) in
    record { inside = omega (arith, below s, s.requires.vectors.room); small = rw (add_assoc s.args.coarse.at k 1) (s.requires.vectors.most (k + 1) (omega (arith, below s))); factor-most = s.requires.factor-most }

made : (words : List ℤ) (at columns row column f : ℕ) (d r : ℤ) → d ≡ get_or words (at + 2 * (row * columns + column)) (pos 0) *ℤ pos f → r ≡ get_or words (at + 2 * (row * columns + column) + 1) (pos 0) *ℤ pos f → ◌≡◌ {A = Vector} (record { down = d; right = r }) (field_at words at columns row column times f)
unfolding field_at
made words at columns row column f d r e g = rw (e, g)

returns : of.Tie.Need-returns
returns c = let s = c.before.before.before.before in
    let a = s.args in
    let d = c.before.coarse_part-down in
    let r = c.coarse_part-right in
    rw (back d.result d.type_inv, back r.result r.type_inv)
    (made a.words.now a.coarse.at a.coarse.columns a.row a.column a.f d.result r.result d.ensures.0 r.ensures.0, record { vertical = d.ensures.1; sideways = r.ensures.1 })

pub coarse_vector_spec : {M : Type 1} → of.Statement.statement M
coarse_vector_spec = of.Tie.close (of.Tie.spec
    mul-k add-k mul-k-2 add-k-2 coarse-part-requires add-coarse-part coarse-part-requires-2 returns)
