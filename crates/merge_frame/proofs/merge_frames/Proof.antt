-- All rows: two rows of pairs of tiles lie in the work area.
use Rattle.std.specs.Prelude.{◌≡◌, ◌-◌, ◌*◌, ◌/◌, ◌≤◌}
use Rattle.merge_frame.specs.Prelude.{sym, ap, ◌∙◌, arith, rules, Allowed, TileSide, scene_at, scene_of, row_words}
use native.Mathlib.Nat.{mul-le-mul_left, mul_comm}
use Rattle.geometry.specs.declared.Shape.{Shape}
use Rattle.geometry.specs.Shape.{output_length, work_length}
use Rattle.merge_tiles.specs.Places.{by_side}
use Rattle.merge_gather.specs.RowLaws.{rows_whole}
use Rattle.merge_frame.proofs.Advance.{whole-merged}
use Rattle.merge_frame.proofs.Bands.{side_above}
use Rattle.merge_frame.proofs.merge_frames as of

rows_fit : {s : Shape} → Allowed s → TileSide s.side → 2 * row_words s.side s.width ≤ work_length s
unfolding row_words work_length
rows_fit {s} ok sided =
    let narrow : 4 * s.side * s.width ≤ 128 * s.width = by_side sided (λ n. 4 * n * s.width ≤ 128 * s.width) (omega arith) (omega arith) in
    omega (arith, narrow, mul-le-mul_left {m = 64} {n = s.height} s.width ok.high.least)

all-rows : {s : Shape} → Allowed s → TileSide s.side → output_length s ≡ (s.side * (s.height / s.side) - s.side * 0) * s.width
unfolding output_length
all-rows {s} ok sided = mul_comm s.width s.height ∙ ap (λ k. k * s.width) (sym (rows_whole sided s.height ok.high.whole))

merge-rows-requires : of.Tie.Need-merge_rows-requires
merge-rows-requires c κs =
    let s = c in
    let ok = s.requires.accepted.burst.allowed in
    let sided = s.requires.accepted.burst.sided in
    record {
      accepted = s.requires.accepted;
      ordered = omega arith;
      last_most = omega arith;
      output_long = s.requires.output_long ∙ all-rows ok sided;
      room = omega (arith, rows_fit ok sided, s.requires.work_long);
    }

returns : of.Tie.Need-returns
unfolding scene_at
returns c =
    let r = c in
    let s = r in
    r.merge_rows.ensures ∙ whole-merged s.requires.accepted.burst.sided (scene_of s.args.m s.args.samples.now s.args.vectors.now) s.requires.accepted.burst.allowed.high

pub merge_frames_spec : {M : Type 1} → of.Statement.statement M
merge_frames_spec = of.Tie.close (of.Tie.spec
    (λ c. side_above c.requires.accepted.burst.sided) merge-rows-requires (λ c. search rules) (λ c. search rules) returns)
