use Rattle.std.specs.Prelude.{◌≡◌, ◌^◌}
use Rattle.algebra.specs.Prelude.{refl, ap, ◌∙◌, rules, lit<, w64, to_z, of_z, to_z-of_z}
use Rattle.tile_bin.specs.Prelude.{away, side16, copy_quantized, copy_bin_most}
use Rattle.tile_spectrum.specs.RoundingLaws.{away-most}
use Rattle.tile_bin.proofs.copies.quantized_part.Goals as goal

-- a bin divided by 2^32 is at most 64 of the copy
pub returns : goal.returns
unfolding copy_quantized side16
returns c =
    let e : to_z w64 (of_z w64 c.round_away_32.result) ≡ c.round_away_32.result = search rules in
    let f : c.round_away_32.result ≡ away c.args.b (2 ^ 32) = c.round_away_32.ensures ∙ ap (λ z. away z (2 ^ 32)) (to_z-of_z c.ranges.b) in
    rw (e, f) (refl, record { most = away-most c.args.b (2 ^ 32) copy_bin_most (lit< tt) c.requires.most })
