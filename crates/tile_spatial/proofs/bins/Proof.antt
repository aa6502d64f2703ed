-- The bins of the high and of the low parts, and what they make.
use Rattle.tile_spatial.specs.Prelude.{refl, subst, sym, ◌∙◌, binary64, of_bits, tab, grid, TileMost}
use Rattle.tile_spectrum.specs.ColumnLaws.{paired-grid}
use Rattle.tile_spatial.specs.Steps.{copy_place_most}
use Rattle.tile_spatial.proofs.PairLaws.{in-double, places-are, places_most}
use Rattle.tile_spatial.proofs.bins as of

forward-into-requires : of.Tie.Need-forward_into-requires
unfolding grid tab
forward-into-requires c κs = (c.highs.ensures.1, paired-grid (λ k l. of_bits binary64 0) refl)

forward-into-requires-2 : of.Tie.Need-forward_into-requires-2
unfolding grid tab
forward-into-requires-2 c κs = (c.lows.ensures.1, paired-grid (λ k l. of_bits binary64 0) refl)

places-requires : of.Tie.Need-places-requires
places-requires c κs =
    let g = c.before.before in
    let l = g in
    let f = l in
    let h = f in
    (in-double h.highs.ensures.1 f.forward_into.ensures, in-double l.lows.ensures.1 g.forward_into-2.ensures)

returns : of.Tie.Need-returns
returns c =
    let g = c.before.before.before in
    let l = g in
    let f = l in
    let h = f in
    let t = h.args.c.now in
    let p = h.highs.ensures in
    let q = l.lows.ensures in (
      c.places.ensures ∙ places-are t p.0 q.0 p.1 q.1 f.forward_into.ensures g.forward_into-2.ensures,
      subst (TileMost copy_place_most) (sym c.places.ensures) (places_most t p.0 q.0 p.1 q.1 f.forward_into.ensures g.forward_into-2.ensures),
    )

pub bins_spec : {M : Type 1} → of.Statement.statement M
bins_spec = of.Tie.close (of.Tie.spec
    (λ c κs. c.requires) forward-into-requires (λ c κs. c.requires)
    forward-into-requires-2 places-requires returns)
