-- Windows are at most 4096.
use Rattle.std.specs.Prelude.{◌≡◌, ◌*◌, ◌≤◌}
use Rattle.merge_gather.specs.Prelude.{ap, ◌∙◌, arith, get_or, pos, w64, to_z, side_of}
use mir.Facts.{to_z_pos}
use Rattle.merge_gather.proofs.Weighing.{window-at, weight-most, side-most}
use Rattle.merge_gather.proofs.weight as of

weight_is : (c : of.Tie.Start) → get_or c.args.window.now c.args.i 0 * get_or c.args.window.now c.args.j 0 ≡ (side_of c.args.side).window c.args.i * (side_of c.args.side).window c.args.j
weight_is c = rw (c.requires.table, window-at c.requires.sided c.args.i c.requires.row, window-at c.requires.sided c.args.j c.requires.column)

small : (c : of.Tie.Start) → get_or c.args.window.now c.args.i 0 * get_or c.args.window.now c.args.j 0 ≤ 16777216
small c = rw (weight_is c) (weight-most c.requires.sided c.args.i c.args.j c.requires.row c.requires.column)

cast-result : of.Tie.Need-overflow_cast-result
cast-result c = record { sfits = omega (arith, small c.before.before.before) }

returns : of.Tie.Need-returns
returns c =
    let s = c.before.before in
    let e : to_z w64 (get_or s.args.window.now s.args.i 0 * get_or s.args.window.now s.args.j 0) ≡ pos ((side_of s.args.side).window s.args.i * (side_of s.args.side).window s.args.j) = to_z_pos w64 (omega (arith, small s.before)) ∙ ap pos (weight_is s.before) in
    (e, rw e (record { most = weight-most s.requires.sided s.args.i s.args.j s.requires.row s.requires.column }))

pub weight_spec : {M : Type 1} → of.Statement.statement M
weight_spec = of.Tie.close (of.Tie.spec
    (λ c. omega (arith, c.requires.row, side-most c.requires.sided)) (λ c. omega (arith, c.requires.row, side-most c.requires.sided))
    (λ c. omega (arith, c.requires.column, side-most c.requires.sided)) (λ c. omega (arith, c.requires.column, side-most c.requires.sided))
    (λ c. omega (arith, small c.before.before.before)) cast-result returns)
