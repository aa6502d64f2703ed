-- The copies, their bins, the step, and N·P' of it.
use Rattle.std.specs.Prelude.{◌≡◌, ◌+◌, ◌*◌, ◌/◌, ◌%◌, ◌^◌, ◌+ℤ◌, ◌*ℤ◌}
use Rattle.tile_spatial.specs.Prelude.{refl, sym, ap, subst, ◌∙◌, false, ℕ, arith, rules, ℤ, pos, tab, TileMost, fold_most, spatial_most, spatial_correction_most, InDouble, plane_in, either}
use Prim.Native.Nat.{zero-le}
use Rattle.sequences.specs.Grid.{grid, cell, cell-grid, grid-ext}
use Rattle.tile_spectrum.specs.ColumnLaws.{paired-grid}
use Rattle.tile_spatial.specs.Filtering.{copy_in, bin_noise, step_at, NoisesMost}
use Rattle.tile_spatial.specs.FilteringLaws.{step-cong}
use Rattle.tile_spatial.proofs.PairLaws.{table-most, lanes-most, step_whole, steps-are, steps-most}
use Rattle.tile_spatial.proofs.filter_pair as of

-- V' of both planes side by side
noises_most : (n : of.Tie.After-lanes-noises) → NoisesMost spatial_most n.lanes-noises.result
noises_most n =
    let s = n in
    lanes-most s.args.first.now s.args.second.now n.lanes-noises.ensures s.requires.first_most s.requires.second_most

-- the step on their bins
abbrev step_is : (g : of.Tie.After-step-g) → InDouble (fold_most false) g.step-g.result
step_is g =
    let n = g.before.before.before in
    step_whole (noises_most n) n.bins-w.result g.step-g.ensures

-- P' of both
steps : (i : of.Tie.After-add_inverse_of) → let n = i.before.before.before.before.before.before in let k = n in let a = k.args in
    i.add_inverse_of.new.sum ≡ grid 16 32 (λ y l. step_at (bin_noise (cell 0 (either a.first.now a.second.now (l % 2)))) (plane_in (cell (pos 0) k.copy_pair-c.result) (l % 2)) y (l / 2))
unfolding grid tab
steps i =
    let g = i.before.before.before in
    let n = g.before.before.before in
    let k = n in
    let a = k.args in
    i.add_inverse_of.ensures (step_is g) ∙ steps-are a.first.now a.second.now n.lanes-noises.ensures k.copy_pair-c.result n.bins-w.ensures.0 refl

copy-pair-requires : of.Tie.Need-copy_pair-c-requires
copy-pair-requires c κs =
    let p = c.requires in
    record { frames_fit = p.frames_fit; samples = p.samples; sums = p.sums }

step-requires : of.Tie.Need-step-g-requires
step-requires c κs =
    let n = c.before.before in
    record { places_most = n.bins-w.ensures.1; noises_most = noises_most n }

add-inverse-of-requires : of.Tie.Need-add_inverse_of-requires
unfolding grid tab
add-inverse-of-requires c κs =
    record {
      whole = step_is c.before.before;
      sums_most = table-most (2 ^ 40) (λ y l. pos 0) (λ y l. zero-le) 16 32;
      paired = paired-grid (λ y l. pos 0) refl;
    }

add-times-requires : of.Tie.Need-add_times-requires
add-times-requires c κs =
    let i = c.before.before in
    let n = i in
    let k = n in
    let s = k in
    record {
      frames_fit = s.requires.frames_fit;
      part = subst (TileMost spatial_correction_most) (sym (steps i)) (steps-most s.args.first.now s.args.second.now n.lanes-noises.ensures k.copy_pair-c.result n.bins-w.ensures.0 s.requires.first_most s.requires.second_most);
      sums = s.requires.sums;
      paired = s.requires.paired;
    }

returns : of.Tie.Need-returns
unfolding copy_in
returns c =
    let i = c.before.before.before in
    let k = i in
    let a = k.args in
    let noise : ℕ → ℕ → ℕ → ℕ = λ p. cell 0 (either a.first.now a.second.now p) in
    let copied : ℕ → ℕ → ℕ → ℤ = λ p. plane_in (cell (pos 0) k.copy_pair-c.result) p in
    let copy : ℕ → ℕ → ℕ → ℤ = λ p. copy_in a.frames (plane_in (cell 0 a.t0.now) p) (plane_in (cell (pos 0) a.sum.now) p) in
    c.add_times.ensures
    ∙ grid-ext 16 32 _ _
    (λ y l h j. ap (λ z. cell (pos 0) a.sum.now y l +ℤ pos a.frames *ℤ z)
    (ap (λ t. cell (pos 0) t y l) (steps i) ∙ cell-grid (pos 0) 16 32 (λ y l. step_at (bin_noise (noise (l % 2))) (copied (l % 2)) y (l / 2)) y l h j
    ∙ step-cong (bin_noise (noise (l % 2))) (copied (l % 2)) (copy (l % 2))
    (λ y x g o. ap (λ t. cell (pos 0) t y (2 * x + l % 2)) k.copy_pair-c.ensures.0 ∙ cell-grid (pos 0) 16 32 (copy_in a.frames (cell 0 a.t0.now) (cell (pos 0) a.sum.now)) y (2 * x + l % 2) g (omega arith)) y (l / 2)))

pub filter_pair_spec : {M : Type 1} → of.Statement.statement M
filter_pair_spec = of.Tie.close (of.Tie.spec
    copy-pair-requires (λ c κs. c.copy_pair-c.ensures.1) (λ c κs. search rules)
    step-requires add-inverse-of-requires add-times-requires returns)
