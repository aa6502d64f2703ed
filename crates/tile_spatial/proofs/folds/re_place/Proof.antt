-- The definition's own tests.
use Rattle.std.specs.Prelude.{◌-◌}
use Rattle.tile_spatial.specs.Prelude.{sym, ◌∙◌, arith, rules, w64, cell, side16, fold_re_of}
use borrow.Author.Tests.{lt-ltb, le-ltb}
use Rattle.tile_spectrum.specs.Lines.Held.{held-is, held-most, line_at}
use Rattle.tile_spectrum.specs.Apart.{is-own, is-paired}
use Rattle.tile_spatial.proofs.Sums64.{sum_fits, sum_is, sum-most, difference-fits, difference-is, difference-most}
use Rattle.tile_spatial.proofs.folds.re_place as of

returns : of.Tie.Need-returns-then-b-eq0
unfolding fold_re_of cell side16
returns c =
    let s = c in
    let b = s.args.b in
    let m = s.requires.re_most.line b in
    (held-is w64 m s.args.l tt ∙ sym (is-own b _ _ (omega arith)), record { most = omega (arith, (held-most w64 m s.args.l tt).most) })

add-result : of.Tie.Need-overflow_add-result
add-result c =
    let s = c in
    let b = s.args.b in
    sum_fits (line_at (s.requires.re_most.line b) s.args.l) (line_at (s.requires.re_most.line (16 - b)) s.args.l) tt tt

returns-2 : of.Tie.Need-returns-then-b-lt9
unfolding fold_re_of cell side16
returns-2 c =
    let s = c in
    let b = s.args.b in
    let m = line_at (s.requires.re_most.line b) s.args.l in
    let n = line_at (s.requires.re_most.line (16 - b)) s.args.l in
    (sum_is m n tt tt ∙ sym (is-paired b _ _ (λ e. omega arith) ∙ rw (lt-ltb b 9 (omega arith))), sum-most m n tt tt)

sub-result-4 : of.Tie.Need-overflow_sub-result-4
sub-result-4 c =
    let s = c in
    let b = s.args.b in
    difference-fits (line_at (s.requires.im_most.line (b - 8)) s.args.l) (line_at (s.requires.im_most.line (24 - b)) s.args.l) tt tt

returns-3 : of.Tie.Need-returns
unfolding fold_re_of cell side16
returns-3 c =
    let s = c in
    let b = s.args.b in
    let m = line_at (s.requires.im_most.line (b - 8)) s.args.l in
    let n = line_at (s.requires.im_most.line (24 - b)) s.args.l in
    (difference-is m n tt tt ∙ sym (is-paired b _ _ (λ e. omega arith) ∙ rw (le-ltb b 9 (omega arith))), difference-most m n tt tt)

pub re_place_spec : {M : Type 1} → of.Statement.statement M
re_place_spec = of.Tie.close (of.Tie.spec
    (λ c. search rules) (λ c. search rules) (λ c. search rules) (λ c. search rules) returns
    (λ c. search rules) (λ c. search rules) (λ c. search rules) (λ c. search rules)
    (λ c. search rules) (λ c. search rules) (λ c. search rules) (λ c. search rules)
    (λ c. search rules) add-result returns-2 (λ c. search rules) (λ c. search rules)
    (λ c. search rules) (λ c. search rules) (λ c. search rules) (λ c. search rules)
    (λ c. search rules) (λ c. search rules) (λ c. search rules) (λ c. search rules) sub-result-4
    returns-3)
