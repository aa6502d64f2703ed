-- P, added to zeros, is added to both sums.
use Rattle.std.specs.Prelude.{◌+◌, ◌*◌, ◌/◌, ◌%◌, ◌^◌, ◌≤◌}
use Rattle.range_pair.specs.Prelude.{refl, ◌∙◌, ℕ, ℤ, pos, nat_abs, tab, grid, correction_most}
use Prim.Native.Nat.{zero-le}
use Rattle.tile_spectrum.specs.Lines.Tiles.{cells-most}
use Rattle.tile_spectrum.specs.SizeLaws.{correction-most}
use Rattle.tile_spectrum.specs.ColumnLaws.{paired-grid}
use Rattle.tile_spatial.proofs.PairLaws.{table-most}
use Rattle.range_pair.proofs.Planes.{pair_p, greatest-equal, least-equal, plus-ext, added-most, added_is}
use Rattle.range_pair.proofs.add_same as of

-- P
abbrev part : of.Tie.Start → ℕ → ℕ → ℤ
part s = pair_p s.args.d.now s.args.noises

part-most : (s : of.Tie.Start) (y l : ℕ) → nat_abs (part s y l) ≤ correction_most
part-most s y l = correction-most _ _ (λ y x. cells-most s.requires.differences y (2 * x + l % 2)) y (l / 2)

add-corrections-requires : of.Tie.Need-add_corrections-requires
unfolding grid tab
add-corrections-requires c κs =
    let p = c.requires in
    record {
      differences = p.differences;
      first_most = p.lower_fits.first_most;
      second_most = p.lower_fits.second_most;
      sums_most = table-most (2 ^ 40) (λ y l. pos 0) (λ y l. zero-le) 16 32;
      paired = paired-grid (λ y l. pos 0) refl;
    }

add-pair-requires : of.Tie.Need-add_pair-requires
unfolding grid tab
add-pair-requires c κs =
    let a = c.before.before in
    let s = a.before.before in
    record { part = added-most (part s) a.add_corrections.ensures correction_most (part-most s); sums = s.requires.greatests }

add-pair-requires-2 : of.Tie.Need-add_pair-requires-2
unfolding grid tab
add-pair-requires-2 c κs =
    let a = c.before.before.before.before.before in
    let s = a.before.before in
    record { part = added-most (part s) a.add_corrections.ensures correction_most (part-most s); sums = s.requires.leasts }

returns : of.Tie.Need-returns
unfolding grid tab
returns c =
    let g = c.before.before.before in
    let a = g.before.before.before in
    let s = a.before.before in
    let d = s.args.d.now in
    let v = s.args.noises in
    let is = added_is (part s) a.add_corrections.ensures in
    record {
      greatest_is = g.add_pair.ensures ∙ is _ ∙ plus-ext _ _ _ (λ y l h k. greatest-equal d v y l);
      least_is = c.add_pair-2.ensures ∙ is _ ∙ plus-ext _ _ _ (λ y l h k. least-equal d v y l);
    }

pub add_same_spec : {M : Type 1} → of.Statement.statement M
add_same_spec = of.Tie.close (of.Tie.spec add-corrections-requires add-pair-requires add-pair-requires-2 returns)
