use Rattle.std.specs.Prelude.{◌≡◌}
use Rattle.algebra.specs.Prelude.{refl, ap, ap₂, ◌∙◌, rules, w64, to_z, of_z, to_z-of_z}
use Rattle.tile_bin.specs.Prelude.{side16, wiener, copy_quantized, copy_filtered}
use Rattle.tile_spectrum.specs.Lines.Held.{number_is}
use Rattle.tile_spectrum.specs.SizeLaws.{copy-gain-most}
use Rattle.tile_bin.proofs.copies.filtered_part.Goals as goal

-- both parts are quantized, then shrunk
pub returns : goal.returns
unfolding copy_filtered
returns c =
    let q = c.quantized_part.ensures in
    let r = c.quantized_part-2.ensures in
    let e : to_z w64 (of_z w64 c.step.result) ≡ c.step.result = search rules in
    let b = number_is w64 q.1 tt ∙ q.0 ∙ ap (copy_quantized side16) (to_z-of_z c.ranges.b) in
    let d = number_is w64 r.1 tt ∙ r.0 ∙ ap (copy_quantized side16) (to_z-of_z c.ranges.c) in
    rw (e ∙ c.step.ensures ∙ ap₂ (wiener c.args.noise) b d) (refl, record { most = copy-gain-most c.args.noise c.requires.noise-most _ _ })
