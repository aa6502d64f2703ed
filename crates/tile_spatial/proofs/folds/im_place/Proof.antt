-- `tile_spatial::folds::im_place`: the real parts' place with the parts exchanged, and past place 8 the other sign.
use Rattle.std.specs.Prelude.{◌≡◌, ◌∷◌, ◌-◌, ◌%◌, ◌≤◌, ◌<◌}
use Rattle.tile_spatial.specs.Prelude.{ap, ◌∙◌, [], ℕ, arith, rules, ℤ, neg_ℤ, w64, side16, apart_of, fold_re_of, fold_im_of}
use borrow.Author.Tests.{ne_eqb, lt-ltb, le-ltb}
use Rattle.algebra.specs.Ring.{var, ◌⊟◌, ⊖◌, ring}
use Rattle.tile_spectrum.specs.Lines.Held.{number_is, number-most}
use Rattle.tile_spatial.proofs.Sums64.{minus-fits, minus_is, minus-most}
use Rattle.tile_spatial.proofs.folds.im_place as of

module _ (g h : ℕ → ℤ) {b : ℕ} where
  low : b < 9 → fold_re_of side16 h g b ≡ fold_im_of side16 g h b
  unfolding fold_re_of fold_im_of side16
  low l = rw (lt-ltb b 9 l)

  high : 9 ≤ b → b < 16 → neg_ℤ (fold_re_of side16 h g b) ≡ fold_im_of side16 g h b
  unfolding fold_re_of fold_im_of side16 apart_of
  high l m = rw (ne_eqb (b % 8) 0 (λ e. omega arith), le-ltb b 9 l) (ring (g (b - 8) ∷ g (24 - b) ∷ []) (⊖ (var 0 ⊟ var 1)) (var 1 ⊟ var 0) tt)

returns : of.Tie.Need-returns-then-b-lt9
returns c =
    let r = c.re_place-r.ensures in
    (number_is w64 r.1 tt ∙ r.0 ∙ low _ _ (omega arith), number-most w64 r.1 tt)

returns-2 : of.Tie.Need-returns
returns-2 c =
    let r = c.re_place-r.ensures in
    (minus_is r.1 tt ∙ ap neg_ℤ r.0 ∙ high _ _ (omega arith) (omega arith), minus-most r.1 tt)

pub im_place_spec : {M : Type 1} → of.Statement.statement M
im_place_spec = of.Tie.close (of.Tie.spec (λ c κs. search rules) returns (λ c. minus-fits c.re_place-r.ensures.1 tt) returns-2)
