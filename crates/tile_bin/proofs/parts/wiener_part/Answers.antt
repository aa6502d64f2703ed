use Rattle.std.specs.Prelude.{◌≡◌}
use Rattle.tile_bin.specs.Prelude.{refl, ap₂, ◌∙◌, rules, w64, to_z, of_z, wiener}
use native.Mathlib.Nat.{le_trans}
use mir.Facts.{to_z-of_z}
use Rattle.tile_spectrum.specs.WienerLaws.{wiener-most}
use Rattle.tile_bin.proofs.parts.wiener_part.Goals as goal

-- G is at most Q
pub returns : goal.returns
returns c =
    let s = c.args in
    let e : to_z w64 (of_z w64 c.step.result) ≡ c.step.result = search rules in
    rw (e ∙ c.step.ensures ∙ ap₂ (wiener s.noise) (to_z-of_z c.ranges.q) (to_z-of_z c.ranges.r))
    (refl, record { most = le_trans (wiener-most s.noise s.q s.r) c.requires.part.most })
