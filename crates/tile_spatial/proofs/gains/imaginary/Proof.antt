-- The definition's own tests.
use Rattle.std.specs.Prelude.{◌+◌, ◌-◌}
use Rattle.tile_spatial.specs.Prelude.{sym, ◌∙◌, arith, rules, w64, pos, cell, side16, imaginary_part}
use Prim.Native.Nat.{zero-le}
use borrow.Author.Tests.{lt-ltb, le-ltb}
use Rattle.tile_spectrum.specs.Lines.Held.{held-is, held-most, line_at}
use Rattle.tile_spectrum.specs.Apart.{is-own, is-paired}
use Rattle.tile_spatial.proofs.Sums64.{minus-fits, minus_is, minus-most}
use Rattle.tile_spatial.proofs.gains.imaginary as of

-- The definition's own tests.

returns : of.Tie.Need-returns-then-u-eq0
unfolding imaginary_part side16
returns c =
    let u = c.args.u in
    (sym (is-own u (pos 0) _ (omega arith)), record { most = zero-le })

returns-2 : of.Tie.Need-returns-then-u-lt9
unfolding imaginary_part cell side16
returns-2 c =
    let s = c in
    let u = s.args.u in
    let m = s.requires.places_most.line (8 + u) in
    (held-is w64 m s.args.l tt ∙ sym (is-paired u (pos 0) _ (λ e. omega arith) ∙ rw (lt-ltb u 9 (omega arith))), held-most w64 m s.args.l tt)

sub-result-2 : of.Tie.Need-overflow_sub-result-2
sub-result-2 c =
    let s = c in
    minus-fits (line_at (s.requires.places_most.line (24 - s.args.u)) s.args.l) tt

returns-3 : of.Tie.Need-returns
unfolding imaginary_part cell side16
returns-3 c =
    let s = c in
    let u = s.args.u in
    let m = line_at (s.requires.places_most.line (24 - u)) s.args.l in
    (minus_is m tt ∙ sym (is-paired u (pos 0) _ (λ e. omega arith) ∙ rw (le-ltb u 9 (omega arith))), minus-most m tt)

pub imaginary_spec : {M : Type 1} → of.Statement.statement M
imaginary_spec = of.Tie.close (of.Tie.spec
    returns (λ c. search rules) (λ c. search rules) (λ c. search rules) (λ c. search rules)
    (λ c. search rules) returns-2 (λ c. search rules) (λ c. search rules) (λ c. search rules)
    (λ c. search rules) (λ c. search rules) sub-result-2 returns-3)
