-- Both distances are stored one after the other.
use Rattle.std.specs.Prelude.{◌-◌, ◌*◌, ◌/◌, ◌%◌}
use Rattle.range_pair.specs.Prelude.{sym, ap, subst, ◌∙◌, List, arith, rules, lit≤, ℤ, nat_abs, w64, AtMost, TileMost, copy_place_most}
use native.Mathlib.Nat.{le_trans}
use Rattle.sequences.specs.TabLaws.{Filled, fill_start, fill-turn, fill_done}
use Rattle.tile_spectrum.specs.Lines.Held.{number_is}
use Rattle.range_pair.specs.Factors.{apart_most, times_at, distance_re, distance_im}
use Rattle.range_pair.proofs.Tables.{lines-re-most, lines-im-most}
use Rattle.range_pair.proofs.distances.distance_row as of

abbrev invariant-loop-l : of.Tie.invariant-loop-l
invariant-loop-l w u re₀ im₀ l₀ re im l = (Filled (distance_re w u) 18 l re₀ re) × (Filled (distance_im w u) 18 l im₀ im)

abbrev decreases-loop-l : of.Tie.decreases-loop-l
decreases-loop-l w u re₀ im₀ l₀ re im l = 18 - l

wider : {w : List (List ℤ)} → TileMost apart_most w → TileMost copy_place_most w
wider m = record { line = λ u. record { at = λ i. le_trans ((m.line u).at i) (lit≤ tt) } }

loop-holds : of.Tie.Need-loop-l-init invariant-loop-l decreases-loop-l
loop-holds c = (fill_start c.requires.re_long, fill_start c.requires.im_long)

bin-re-requires : of.Tie.Need-bin_re-a-requires invariant-loop-l decreases-loop-l
bin-re-requires c κs =
    let s = c in
    record { places_most = wider s.requires.places_most; u_below = s.requires.u_below; l_below = omega arith }

bin-im-requires : of.Tie.Need-bin_im-b-requires invariant-loop-l decreases-loop-l
bin-im-requires c κs =
    let s = c in
    record { places_most = wider s.requires.places_most; u_below = s.requires.u_below; l_below = omega arith }

distance-requires : of.Tie.Need-distance-requires invariant-loop-l decreases-loop-l
distance-requires c κs =
    let a = c in
    let l = a in
    let s = l in
    subst (AtMost (2 * apart_most)) (sym (number_is w64 a.bin_re-a.ensures.1 tt ∙ a.bin_re-a.ensures.0))
    (record { most = lines-re-most s.requires.places_most (l.loop-l.l % 2) s.args.u (l.loop-l.l / 2) })

distance-requires-2 : of.Tie.Need-distance-requires-in-loop-l invariant-loop-l decreases-loop-l
distance-requires-2 c κs =
    let b = c in
    let l = b in
    let s = l in
    subst (AtMost (2 * apart_most)) (sym (number_is w64 b.bin_im-b.ensures.1 tt ∙ b.bin_im-b.ensures.0))
    (record { most = lines-im-most s.requires.places_most (l.loop-l.l % 2) s.args.u (l.loop-l.l / 2) })

loop-again : of.Tie.Need-loop-l-preserved invariant-loop-l decreases-loop-l
unfolding distance_re distance_im
loop-again c =
    let g = c.before in
    let b = g in
    let a = b in
    let l = a in
    let u = l.args.u in
    let re = number_is w64 a.bin_re-a.ensures.1 tt ∙ a.bin_re-a.ensures.0 in
    let im = number_is w64 b.bin_im-b.ensures.1 tt ∙ b.bin_im-b.ensures.0 in (
      fill-turn l.loop-l.invariant.0 (omega arith) (g.distance.ensures ∙ ap (λ z. times_at u (l.loop-l.l / 2) * nat_abs z) re),
      fill-turn l.loop-l.invariant.1 (omega arith) (c.distance-in-loop-l.ensures ∙ ap (λ z. times_at u (l.loop-l.l / 2) * nat_abs z) im),
    )

returns : of.Tie.Need-returns invariant-loop-l decreases-loop-l
returns c = (fill_done c.loop-l.invariant.0 (omega arith), fill_done c.loop-l.invariant.1 (omega arith))

pub distance_row_spec : {M : Type 1} → of.Statement.statement M
distance_row_spec = of.Tie.close (of.Tie.spec
    invariant-loop-l decreases-loop-l loop-holds bin-re-requires bin-im-requires distance-requires
    (λ c. search rules) (λ c. search rules) distance-requires-2 (λ c. search rules)
    (λ c. search rules) (λ c. search rules) (λ c. search rules) loop-again returns)
