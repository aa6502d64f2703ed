-- B, both G, their widths, their inverse sums, and P of both ends.
use Rattle.std.specs.Prelude.{◌≡◌}
use Rattle.range_pair.specs.Prelude.{refl, ◌∙◌, false, ℕ, ℤ, pos, binary64, of_bits, tab, grid, cell, doubles}
use Rattle.tile_spectrum.specs.ColumnLaws.{paired-grid}
use Rattle.tile_pair.proofs.Passes.{columns_whole}
use Rattle.tile_pair.proofs.Corrections.{binned_pair}
use Rattle.range_pair.proofs.Planes.{gains, gains_whole, greatest-here, least-here, plus-ext}
use Rattle.range_pair.proofs.add_apart as of

-- the differences
abbrev differences : of.Tie.Start → ℕ → ℕ → ℤ
differences s = cell (pos 0) s.args.d.now

-- both G, folded
low_is : (c : of.Tie.After-wiener_of-low) → let s = c.before.before.before.before in c.wiener_of-low.result ≡ doubles (gains s.args.lower s.requires.lower_fits (differences s))
low_is c =
    let f = c.before.before in
    let s = f.before.before in
    c.wiener_of-low.ensures (binned_pair s.requires.differences f.forward_into.ensures)

high_is : (c : of.Tie.After-wiener_of-high) → let s = c.before.before.before.before.before.before in c.wiener_of-high.result ≡ doubles (gains s.args.upper s.requires.upper_fits (differences s))
high_is c =
    let f = c.before.before.before.before in
    let s = f.before.before in
    c.wiener_of-high.ensures (binned_pair s.requires.differences f.forward_into.ensures)

forward-into-requires : of.Tie.Need-forward_into-requires
unfolding grid tab
forward-into-requires c κs = (c.requires.differences, paired-grid (λ k l. of_bits binary64 0) refl)

wiener-of-requires : of.Tie.Need-wiener_of-low-requires
wiener-of-requires c κs =
    let f = c in
    let p = f.requires in
    record { binned = binned_pair p.differences f.forward_into.ensures; first_most = p.lower_fits.first_most; second_most = p.lower_fits.second_most }

wiener-of-requires-2 : of.Tie.Need-wiener_of-high-requires
wiener-of-requires-2 c κs =
    let f = c in
    let p = f.requires in
    record { binned = binned_pair p.differences f.forward_into.ensures; first_most = p.upper_fits.first_most; second_most = p.upper_fits.second_most }

widths-of-requires : of.Tie.Need-widths_of-w-requires
widths-of-requires c κs =
    let h = c.before.before in
    let s = h.before.before.before.before.before.before in
    (gains_whole _ s.requires.lower_fits (differences s) (low_is h.before.before), gains_whole _ s.requires.upper_fits (differences s) (high_is h))

back-requires : of.Tie.Need-back-requires
unfolding doubles
back-requires c κs = paired-grid _ (low_is c.before.before.before.before.before.before)

back-requires-2 : of.Tie.Need-back-requires-2
unfolding doubles
back-requires-2 c κs = paired-grid _ (high_is c.before.before.before.before.before.before)

add-lines-requires : of.Tie.Need-add_lines-requires
add-lines-requires c κs =
    let r = c.before.before.before.before.before in
    let o = r.before.before in
    let w = o.before.before in
    let h = w.before.before.before in
    let s = h.before.before.before.before.before.before in
    let p = s.requires in
    record {
      low_in = columns_whole false o.back.ensures (gains_whole _ p.lower_fits (differences s) (low_is h.before.before));
      high_in = columns_whole false r.back-2.ensures (gains_whole _ p.upper_fits (differences s) (high_is h));
      widths_most = w.widths_of-w.ensures.1;
      greatests = p.greatests;
      leasts = p.leasts;
    }

returns : of.Tie.Need-returns
returns c =
    let r = c.before.before.before.before.before.before in
    let o = r.before.before in
    let w = o.before.before in
    let h = w.before.before.before in
    let s = h.before.before.before.before.before.before in
    let p = s.requires in
    let a = s.args in
    let low = low_is h.before.before in
    let high = high_is h in
    let widths = w.widths_of-w.ensures.0 in
    let low-back = o.back.ensures (gains_whole _ p.lower_fits (differences s) low) in
    let high-back = r.back-2.ensures (gains_whole _ p.upper_fits (differences s) high) in
    record {
      greatest_is = c.add_lines.ensures.greatest_is ∙ plus-ext _ _ _ (greatest-here a.lower a.upper p.lower_fits p.upper_fits a.d.now low high widths low-back high-back);
      least_is = c.add_lines.ensures.least_is ∙ plus-ext _ _ _ (least-here a.lower a.upper p.lower_fits p.upper_fits a.d.now low high widths low-back high-back);
    }

pub add_apart_spec : {M : Type 1} → of.Statement.statement M
add_apart_spec = of.Tie.close (of.Tie.spec
    forward-into-requires wiener-of-requires wiener-of-requires-2 widths-of-requires back-requires back-requires-2 add-lines-requires returns)
