-- The buffers are long enough for the side.
use Rattle.std.specs.Prelude.{◌+◌, ◌≤◌}
use Rattle.align_level.specs.Prelude.{sym, ap, subst, arith}
use native.Mathlib.Nat.{mul-le-mul}
use Rattle.align_tile.specs.StoredLaws.{copyable, ready}
use Rattle.align_level.proofs.Answers.{side-most}
use Rattle.align_level.proofs.level_tile.Goals as goal

pub copy_square-requires : goal.copy_square-requires
copy_square-requires c =
    let t = c.tile_at-tile.ensures in
    let s = c.args.step in
    let most : c.tile_at-tile.result.side ≤ 32 = subst (λ n. n ≤ 32) (sym (ap (λ t. t.side) t.0)) (side-most s.side s.level c.args.row c.args.column c.requires.sided) in
    copyable c.requires.stored t.1 (omega (arith, mul-le-mul most most, c.requires.room.samples_room))

pub refine_level-requires : goal.refine_level-requires
refine_level-requires c =
    let t = c.tile_at-tile.ensures in
    let s = c.args.step in
    let most : c.tile_at-tile.result.side ≤ 32 = subst (λ n. n ≤ 32) (sym (ap (λ t. t.side) t.0)) (side-most s.side s.level c.args.row c.args.column c.requires.sided) in
    let more : c.tile_at-tile.result.side + 8 ≤ 40 = omega (arith, most) in
    let square = mul-le-mul most most in
    let around = mul-le-mul more more in
    let room = c.requires.room in
    record {
      at = record { tile_is = t.0; stored = c.requires.stored; placed = t.1; sided = c.requires.sided; led = c.requires.led; row-most = c.requires.row-most; column-most = c.requires.column-most };
      ready = ready c.requires.stored t.1 (omega (arith, square, room.samples_room)) (omega (arith, room.samples_room)) c.copy_square.ensures;
      roomy = record { enough = omega (arith, room.samples_room); samples_room = omega (arith, square, room.samples_room); window_room = omega (arith, around, room.window_room); other_room = omega (arith, square, room.other_room) };
    }
