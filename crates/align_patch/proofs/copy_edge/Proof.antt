-- Each turn writes eight samples more of the part.
use lib.IntN.{+ℤ_assoc}
use Rattle.std.specs.Prelude.{◌≡◌, ◌+◌, ◌-◌, ◌*◌, ◌^◌, ◌≤◌, ◌+ℤ◌}
use Rattle.algebra.specs.Prelude.{refl, lit≤, ap, ◌∙◌, ℕ, arith, rules, ℤ, pos, nat_abs, w64, to_z, of_z, to_z-of_z}
use Rattle.algebra.specs.Back.{back}
use Rattle.algebra.specs.Order.{abs-add}
use Rattle.geometry.specs.Read.{inside}
use Rattle.sequences.specs.Write.{Writing, write-start, write-part, write_done}
use Rattle.align_pyramid.specs.Words.{word_at}
use Rattle.align_patch.specs.Copies.{sample_of}
use Rattle.align_patch.proofs.copy_edge as of

abbrev invariant-loop-k : of.Tie.invariant-loop-k
invariant-loop-k words start width column n out₀ to k₀ k-end out k = Writing out₀ to (sample_of words start width (to_z w64 column)) n (8 * k) out

abbrev decreases-loop-k : of.Tie.decreases-loop-k
decreases-loop-k words start width column n out₀ to k₀ k-end out k = k-end - k

-- eights further a column is still near, by as many samples as are left
further : (z column : ℤ) (j n : ℕ) → z ≡ column +ℤ pos j → nat_abs column + n ≤ 2 ^ 32 → j + 8 ≤ n → nat_abs z + 8 ≤ 2 ^ 32
further z column j n e h l = rw e (omega (arith, abs-add column (pos j)))

-- eight columns further, j places on
eights : (column : ℤ) (k j : ℕ) → column +ℤ pos k +ℤ pos j ≡ column +ℤ pos (k + j)
eights column k j = +ℤ_assoc column (pos k) (pos j)

shifted-requires : of.Tie.Need-shifted-first-requires invariant-loop-k decreases-loop-k
shifted-requires c κs = let s = c.before.before.before in
    rw (to_z-of_z s.ranges.column) (record { most = omega (arith, s.requires.near) }, omega (arith, s.requires.small))

copy-group-requires : of.Tie.Need-copy_group-requires invariant-loop-k decreases-loop-k
copy-group-requires c κs = let s = c.before.before.before.before.before in
    let m = c.before.shifted-first in
    record {
      row = s.requires.row;
      wide = s.requires.wide;
      wide_small = s.requires.wide_small;
      near = further _ (to_z w64 (of_z w64 s.args.column)) (8 * c.before.before.before.loop-k.k) s.args.n (back m.result m.type_inv ∙ m.ensures) (rw (to_z-of_z s.ranges.column) s.requires.near) (omega arith);
      eights = refl;
      small = lit≤ tt;
      room = omega arith;
    }

loop-again : of.Tie.Need-loop-k-preserved invariant-loop-k decreases-loop-k
loop-again c = let a = c.before.before.before.before.before.before.before.before.args in
    let l = c.before.before.before.before.before.before.loop-k in
    let m = c.before.before.before.before.shifted-first in
    let e : 8 * (l.k + 1) ≡ 8 * l.k + 8 = omega arith in
    rw e (write-part l.invariant (omega arith) (λ j h. ap (λ x. word_at a.words.now (a.start + inside a.width x)) (ap (λ z. z +ℤ pos j) (back m.result m.type_inv ∙ m.ensures) ∙ eights (to_z w64 (of_z w64 a.column)) (8 * l.k) j)) c.before.before.copy_group.ensures)

returns : of.Tie.Need-returns invariant-loop-k decreases-loop-k
returns c = simp (to_z-of_z c.before.before.before.ranges.column) at (write_done c.before.loop-k.invariant (omega arith))

pub copy_edge_spec : {M : Type 1} → of.Statement.statement M
copy_edge_spec = of.Tie.close (of.Tie.spec
    invariant-loop-k decreases-loop-k (λ c. write-start (search rules)) (λ c. search rules) shifted-requires (λ c. search rules) (λ c. search rules) copy-group-requires (λ c. search rules)
    (λ c. search rules) loop-again (λ c. search rules) returns)
