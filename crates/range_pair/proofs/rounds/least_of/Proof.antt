-- Four times both halves and the width, as they are held.
use Rattle.std.specs.Prelude.{◌≡◌, ◌^◌}
use Rattle.algebra.specs.Prelude.{sym, ap, subst, ◌∙◌, w64, to_z, of_z, to_z-of_z}
use Rattle.algebra.specs.Bound.{AtMost}
use Rattle.tile_spectrum.specs.Lines.Held.{number_is}
use Rattle.range_pair.specs.Factors.{quarter_of, least_of}
use Rattle.range_pair.proofs.Sums.{both-fits, four-fits, width_fits, less-is, less-fits, less-held}
use Rattle.range_pair.proofs.rounds.least_of as of

held : (c : of.Tie.After-quartered) → to_z w64 (of_z w64 c.quartered.result) ≡ c.quartered.result
held c = number_is w64 c.quartered.ensures.1 tt

returns : of.Tie.Need-returns
unfolding least_of
returns c =
    let p = c.requires in (
      held c ∙ c.quartered.ensures.0 ∙ ap quarter_of (to_z-of_z (less-fits p.first p.second p.width-most) ∙ less-is p.first p.second p.width-most),
      subst (AtMost (2 ^ 28)) (sym (held c)) c.quartered.ensures.1,
    )

pub least_of_spec : {M : Type 1} → of.Statement.statement M
least_of_spec = of.Tie.close (of.Tie.spec
    (λ c. both-fits c.requires.first c.requires.second) (λ c. four-fits c.requires.first c.requires.second)
    (λ c. width_fits c.requires.first c.requires.second c.requires.width-most) (λ c. less-fits c.requires.first c.requires.second c.requires.width-most)
    (λ c κs. less-held c.requires.first c.requires.second c.requires.width-most) returns)
