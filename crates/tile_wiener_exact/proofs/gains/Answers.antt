use Rattle.std.specs.Prelude.{◌∷◌}
use Rattle.tile_wiener_exact.specs.Prelude.{ap₂, ◌∙◌, [], w64, binary64, of_int, exact_gains_by}
use Rattle.tile_spectrum.specs.Lines.Held.{number_is}
use Rattle.recipe.specs.Correction.{wiener}
use Rattle.tile_wiener_exact.proofs.gains.Goals as goal

pub returns : goal.returns
unfolding exact_gains_by
returns g c =
    let q = c.whole_quantized-q.ensures in
    let r = c.whole_quantized-r.ensures in
    let first = c.wiener_part-g.ensures in
    let second = c.wiener_part-h.ensures in
    let a = number_is w64 q.1 tt ∙ q.0 in
    let b = number_is w64 r.1 tt ∙ r.0 in
    ap₂ (λ x y. of_int binary64 x ∷ of_int binary64 y ∷ [])
    (number_is w64 first.1 tt ∙ first.0 ∙ ap₂ (wiener c.args.noise) a b)
    (number_is w64 second.1 tt ∙ second.0 ∙ ap₂ (wiener c.args.noise) b a)
