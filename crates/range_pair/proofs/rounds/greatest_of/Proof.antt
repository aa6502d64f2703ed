-- Four times both halves and the width, as they are held.
use Rattle.std.specs.Prelude.{◌≡◌, ◌^◌}
use Rattle.algebra.specs.Prelude.{sym, ap, subst, ◌∙◌, w64, to_z, of_z, to_z-of_z}
use Rattle.algebra.specs.Bound.{AtMost}
use Rattle.tile_spectrum.specs.Lines.Held.{number_is}
use Rattle.range_pair.specs.Factors.{quarter_of, greatest_of}
use Rattle.range_pair.proofs.Sums.{both-fits, four-fits, width_fits, more-is, more-fits, more-held}
use Rattle.range_pair.proofs.rounds.greatest_of as of

held : (c : of.Tie.After-quartered) → to_z w64 (of_z w64 c.quartered.result) ≡ c.quartered.result
held c = number_is w64 c.quartered.ensures.1 tt

returns : of.Tie.Need-returns
unfolding greatest_of
returns c =
    let p = c.requires in (
      held c ∙ c.quartered.ensures.0 ∙ ap quarter_of (to_z-of_z (more-fits p.first p.second p.width-most) ∙ more-is p.first p.second p.width-most),
      subst (AtMost (2 ^ 28)) (sym (held c)) c.quartered.ensures.1,
    )

pub greatest_of_spec : {M : Type 1} → of.Statement.statement M
greatest_of_spec = of.Tie.close (of.Tie.spec
    (λ c. both-fits c.requires.first c.requires.second) (λ c. four-fits c.requires.first c.requires.second)
    (λ c. width_fits c.requires.first c.requires.second c.requires.width-most) (λ c. more-fits c.requires.first c.requires.second c.requires.width-most)
    (λ c κs. more-held c.requires.first c.requires.second c.requires.width-most) returns)
