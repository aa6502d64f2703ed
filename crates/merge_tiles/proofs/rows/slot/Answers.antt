-- A row's place is one of two.
use Rattle.std.specs.Prelude.{◌*◌, ◌%◌, ◌≤◌}
use Rattle.std.proofs.Common.{refl, arith, mul-le-mul, mul-le-mul_right}
use Rattle.merge_tiles.specs.Rows.{row_words, slot_of}
use Rattle.merge_tiles.proofs.rows.slot.Goals as goal

pub returns : goal.returns
unfolding slot_of row_words
returns c =
    let a = c.args in
    let words : 2 * a.side * a.width ≤ 64 * 4096 = mul-le-mul {n₁ = 2 * a.side} {m₁ = a.width} {n₂ = 64} {m₂ = 4096} (omega (arith, c.requires.0)) c.requires.1 in
    let half : a.row % 2 * (2 * a.side * a.width) ≤ 1 * (2 * a.side * a.width) = mul-le-mul_right _ (omega arith) in
    record { is = refl; in_area = omega arith; most = omega arith }
