-- Nothing beside columns 0 and 8, and else a line.
use Rattle.std.specs.Prelude.{◌≡◌, ◌+◌, ◌*◌, ◌/◌, ◌%◌}
use Rattle.tile_spatial.specs.Prelude.{sym, ap, ◌∙◌, arith, rules, pos, w64, cell, real_of}
use Prim.Native.Nat.{zero-le}
use Rattle.tile_spectrum.specs.Lines.Held.{number_is, number-most}
use Rattle.tile_spatial.specs.Steps.{lines_in}
use Rattle.tile_spatial.proofs.LinePlaces.{own-real, paired-real}
use Rattle.tile_spatial.proofs.gains.beside_real as of

returns : of.Tie.Need-returns-then-l-eq0
returns c =
    let a = c.args in
    (sym (own-real (lines_in a.w.now (a.l % 2)) a.u (a.l / 2) (omega arith)), record { most = zero-le })

real-requires : of.Tie.Need-real-requires
real-requires c κs =
    let s = c in
    record { places_most = s.requires.places_most; u_below = s.requires.u_below; l_below = omega (arith, s.requires.l_below) }

returns-2 : of.Tie.Need-returns
returns-2 c =
    let a = c.args in
    let column : 16 + a.l ≡ 2 * (8 + a.l / 2) + a.l % 2 = omega arith in
    (number_is w64 c.real.ensures.1 tt ∙ c.real.ensures.0 ∙ ap (λ k. real_of (λ b. cell (pos 0) a.w.now b k) a.u) column ∙ sym (paired-real (lines_in a.w.now (a.l % 2)) a.u (a.l / 2) (λ e. omega arith)), number-most w64 c.real.ensures.1 tt)

pub beside_real_spec : {M : Type 1} → of.Statement.statement M
beside_real_spec = of.Tie.close (of.Tie.spec returns (λ c. search rules) real-requires returns-2)
