-- What 25 lets through has no filter at side 32.
use Rattle.std.specs.Prelude.{◌≡◌, ◌≤◌}
use Rattle.algebra.specs.Prelude.{false, ℕ, arith, ltb}
use Rattle.std.proofs.Common.{ltb-false, eq-eqb}
use Rattle.refusals.specs.Numbers as no
use Rattle.refusals.specs.TestLaws.{refuse-not}
use Rattle.admit_call.specs.Refusals.{filter_side_refusal}

pub unfiltered : (side s : ℕ) → filter_side_refusal side s ≡ 0 → side ≡ 32 → s ≡ 0
unfolding filter_side_refusal
unfiltered side s e h =
    let off : ltb 0 s ≡ false = refuse-not no.filtered_side (ltb 0 s) tt (rw (eq-eqb side 32 h) at e) in
    let most : s ≤ 0 = ltb-false 0 s off in
    omega arith
