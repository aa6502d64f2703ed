-- The distances are stored one row after the other, and weighed.
use Rattle.std.specs.Prelude.{◌≡◌, ◌-◌, ◌<◌}
use Rattle.range_pair.specs.Prelude.{refl, sym, ap, subst, ◌∙◌, [], ℕ, arith, rules, get_or, length, tab, grid, TileMost}
use Rattle.sequences.specs.TabLaws.{Filled, fill_start, fill-turn, fill-rest, fill_done, get_d-tab, length-tab}
use Rattle.range_pair.specs.Factors.{apart_most, distance_re, distance_im}
use Rattle.range_pair.proofs.Tables.{factored, distant, distance-re-most, distance-im-most, pair-width-most, width-tile}
use Rattle.range_pair.proofs.Planes.{apart-most, widths-are}
use Rattle.range_pair.proofs.widths_of as of

-- a row of zeros
abbrev none : ℕ → ℕ
none l = 0

zeros-long : (u : ℕ) → u < 16 → length (get_or (grid 16 18 (λ u. none)) u []) ≡ 18
unfolding grid
zeros-long u h = ap length (get_d-tab (λ u. tab 18 none) [] 16 u h) ∙ length-tab none 18

abbrev invariant-loop-u : of.Tie.invariant-loop-u
invariant-loop-u low high w re₀ im₀ u₀ re im u = (Filled (λ u. tab 18 (distance_re w u)) 16 u re₀ re) × (Filled (λ u. tab 18 (distance_im w u)) 16 u im₀ im)

abbrev decreases-loop-u : of.Tie.decreases-loop-u
decreases-loop-u low high w re₀ im₀ u₀ re im u = 16 - u

distance-row-requires : of.Tie.Need-distance_row-requires invariant-loop-u decreases-loop-u
unfolding grid tab
distance-row-requires c κs =
    let l = c in
    let a = l in
    let s = a in
    record {
      places_most = subst (TileMost apart_most) (sym a.apart_pair-w.ensures) (apart-most s.requires.0 s.requires.1);
      u_below = omega arith;
      re_long = ap length (fill-rest l.loop-u.invariant.0 (omega arith) []) ∙ zeros-long l.loop-u.u (omega arith);
      im_long = ap length (fill-rest l.loop-u.invariant.1 (omega arith) []) ∙ zeros-long l.loop-u.u (omega arith);
    }

loop-again : of.Tie.Need-loop-u-preserved invariant-loop-u decreases-loop-u
loop-again c =
    let l = c in
    (fill-turn l.loop-u.invariant.0 (omega arith) c.distance_row.ensures.0, fill-turn l.loop-u.invariant.1 (omega arith) c.distance_row.ensures.1)

widths-requires : of.Tie.Need-widths-requires invariant-loop-u decreases-loop-u
unfolding grid
widths-requires c κs =
    let f = c in
    let l = f in
    let a = l in
    let m = subst (TileMost apart_most) (sym a.apart_pair-w.ensures) (apart-most a.requires.0 a.requires.1) in
    record {
      factored = factored f.factors-f.ensures;
      re_most = distant (distance_re a.apart_pair-w.result) (distance-re-most m) (fill_done l.loop-u.invariant.0 (omega arith));
      im_most = distant (distance_im a.apart_pair-w.result) (distance-im-most m) (fill_done l.loop-u.invariant.1 (omega arith));
    }

returns : of.Tie.Need-returns invariant-loop-u decreases-loop-u
unfolding grid
returns c =
    let f = c.before.before.before.before in
    let l = f in
    let a = l in
    let s = a in
    let m = subst (TileMost apart_most) (sym a.apart_pair-w.ensures) (apart-most s.requires.0 s.requires.1) in
    let p = fill_done l.loop-u.invariant.0 (omega arith) in
    let q = fill_done l.loop-u.invariant.1 (omega arith) in
    let n = distant (distance_re a.apart_pair-w.result) (distance-re-most m) p in
    let o = distant (distance_im a.apart_pair-w.result) (distance-im-most m) q in (
      c.widths.ensures ∙ widths-are s.args.low.now s.args.high.now a.apart_pair-w.ensures f.factors-f.ensures p q,
      width-tile _ (pair-width-most (factored f.factors-f.ensures) n o) c.widths.ensures,
    )

pub widths_of_spec : {M : Type 1} → of.Statement.statement M
widths_of_spec = of.Tie.close (of.Tie.spec
    invariant-loop-u decreases-loop-u (λ c κs. c.requires) (λ c. (fill_start refl, fill_start refl)) (λ c. search rules) (λ c. search rules)
    (λ c. search rules) (λ c. search rules) distance-row-requires (λ c. search rules) (λ c. search rules) loop-again
    (λ c κs. search rules) widths-requires returns)
