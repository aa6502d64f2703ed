-- The real parts of columns 0 to 8, and the imaginary ones of columns 1 to 7.
use Rattle.std.specs.Prelude.{◌≡◌, ◌+◌, ◌-◌, ◌*◌, ◌/◌, ◌%◌}
use Rattle.tile_spatial.specs.Prelude.{ap, ◌∙◌, arith, rules, pos, w64, cell, side16, fold_re, fold_im, spread_of}
use borrow.Author.Tests.{lt-ltb, le-ltb}
use Rattle.tile_spectrum.specs.Lines.Held.{number_is, number-most}
use Rattle.tile_spatial.proofs.folds.folded as of

re-place-requires : of.Tie.Need-re_place-requires
re-place-requires c κs =
    let p = c.requires in
    record { re_most = p.re_most; im_most = p.im_most; b_below = p.b_below; l_below = omega arith }

returns : of.Tie.Need-returns-then-l-lt18
unfolding spread_of side16
returns c =
    let a = c.args in
    let column : a.l ≡ 2 * (a.l / 2) + a.l % 2 = omega arith in
    (number_is w64 c.re_place.ensures.1 tt ∙ c.re_place.ensures.0 ∙ ap (λ k. fold_re (λ u. cell (pos 0) a.g.now u k) (λ u. cell (pos 0) a.h.now u k) a.b) column ∙ rw (lt-ltb (a.l / 2) 9 (omega arith)), number-most w64 c.re_place.ensures.1 tt)

im-place-requires : of.Tie.Need-im_place-requires
im-place-requires c κs =
    let p = c.requires in
    record { re_most = p.re_most; im_most = p.im_most; b_below = p.b_below; l_below = omega (arith, p.l_below) }

returns-2 : of.Tie.Need-returns
unfolding spread_of side16
returns-2 c =
    let a = c.args in
    let column : a.l - 16 ≡ 2 * (a.l / 2 - 8) + a.l % 2 = omega arith in
    (number_is w64 c.im_place.ensures.1 tt ∙ c.im_place.ensures.0 ∙ ap (λ k. fold_im (λ u. cell (pos 0) a.g.now u k) (λ u. cell (pos 0) a.h.now u k) a.b) column ∙ rw (le-ltb (a.l / 2) 9 (omega arith)), number-most w64 c.im_place.ensures.1 tt)

pub folded_spec : {M : Type 1} → of.Statement.statement M
folded_spec = of.Tie.close (of.Tie.spec
    re-place-requires returns (λ c. search rules) im-place-requires returns-2)
