use Rattle.std.proofs.Common.{rules, ◌≡◌}
use Rattle.std.specs.Prelude.{◌+ℤ◌, ◌+◌}
use Rattle.algebra.specs.Prelude.{ap, sym, ◌∙◌, pos, get_or}
use Rattle.tile_spectrum.specs.Lines.Fold.{sum_of}
use Rattle.sequences.specs.MadeLaws.{made-tab}
use Rattle.tile_lines.proofs.whole.sums.Goals as goal

pub returns : goal.returns
unfolding sum_of
returns g c s e =
    made-tab c.from_fn.ensures.items (sum_of s (λ n. get_or c.args.x.now n (pos 0)))
    (λ i y q l d.
    let k : y ≡ get_or c.args.x.now i (pos 0) +ℤ get_or c.args.x.now (i + g.row.HALF) (pos 0) = search rules in
    (k ∙ ap (λ h. get_or c.args.x.now i (pos 0) +ℤ get_or c.args.x.now (i + h) (pos 0)) (sym e), search rules))
