-- The rows of both parts are stored one after the other, and folded.
use Rattle.std.specs.Prelude.{◌≡◌, ◌-◌, ◌<◌}
use Rattle.tile_spatial.specs.Prelude.{refl, sym, ap, subst, ◌∙◌, [], ℕ, arith, rules, get_or, length, pos, tab, grid, frequency, TileMost, spatial_gain_most}
use Rattle.sequences.specs.TabLaws.{Filled, fill_start, fill-turn, fill-rest, fill_done, get_d-tab, length-tab}
use Rattle.tile_spatial.specs.Steps.{lane_re, lane_im}
use Rattle.tile_spatial.proofs.PairLaws.{table-most, lane-re-most, lane-im-most, spreads-are}
use Rattle.tile_spatial.proofs.step as of

-- a row of zeros
zeros-long : (u : ℕ) → u < 16 → length (get_or (grid 16 18 (λ u l. pos 0)) u []) ≡ 18
unfolding grid
zeros-long u h = ap length (get_d-tab (λ u. tab 18 (λ l. pos 0)) [] 16 u h) ∙ length-tab (λ l. pos 0) 18

abbrev invariant-loop-u : of.Tie.invariant-loop-u
invariant-loop-u w noises g₀ h₀ u₀ g h u = (Filled (λ u. tab 18 (lane_re (get_or noises (frequency u) []) w u)) 16 u g₀ g) × (Filled (λ u. tab 18 (lane_im (get_or noises (frequency u) []) w u)) 16 u h₀ h)

abbrev decreases-loop-u : of.Tie.decreases-loop-u
decreases-loop-u w noises g₀ h₀ u₀ g h u = 16 - u

gain-row-requires : of.Tie.Need-gain_row-requires invariant-loop-u decreases-loop-u
unfolding grid tab
gain-row-requires c κs =
    let n = c in
    let l = n in
    let s = l in
    record {
      places_most = s.requires.places_most;
      noises_most = s.requires.noises_most.line n.counted.result;
      u_below = omega arith;
      g_long = ap length (fill-rest l.loop-u.invariant.0 (omega arith) []) ∙ zeros-long l.loop-u.u (omega arith);
      h_long = ap length (fill-rest l.loop-u.invariant.1 (omega arith) []) ∙ zeros-long l.loop-u.u (omega arith);
    }

loop-again : of.Tie.Need-loop-u-preserved invariant-loop-u decreases-loop-u
loop-again c =
    let n = c in
    let l = n in
    let a = l.args in
    let row = ap (λ f. get_or a.noises.now f []) n.counted.ensures.0 in (
      fill-turn l.loop-u.invariant.0 (omega arith) (c.gain_row.ensures.0 ∙ ap (λ r. tab 18 (lane_re r a.w.now l.loop-u.u)) row),
      fill-turn l.loop-u.invariant.1 (omega arith) (c.gain_row.ensures.1 ∙ ap (λ r. tab 18 (lane_im r a.w.now l.loop-u.u)) row),
    )

folds-requires : of.Tie.Need-folds-requires invariant-loop-u decreases-loop-u
unfolding grid
folds-requires c κs =
    let l = c in
    let s = l in
    let m = s.requires.noises_most in
    let w = s.args.w.now in
    record {
      re_most = subst (TileMost spatial_gain_most) (sym (fill_done l.loop-u.invariant.0 (omega arith))) (table-most spatial_gain_most _ (lane-re-most m w) 16 18);
      im_most = subst (TileMost spatial_gain_most) (sym (fill_done l.loop-u.invariant.1 (omega arith))) (table-most spatial_gain_most _ (lane-im-most m w) 16 18);
    }

returns : of.Tie.Need-returns invariant-loop-u decreases-loop-u
unfolding grid
returns c =
    let l = c in
    let a = l.args in
    c.folds.ensures ∙ spreads-are a.noises.now a.w.now (fill_done l.loop-u.invariant.0 (omega arith)) (fill_done l.loop-u.invariant.1 (omega arith))

pub step_spec : {M : Type 1} → of.Statement.statement M
step_spec = of.Tie.close (of.Tie.spec
    invariant-loop-u decreases-loop-u (λ c. (fill_start refl, fill_start refl)) (λ c κs. omega arith)
    (λ c. search rules) (λ c. search rules) (λ c. search rules) (λ c. search rules)
    (λ c. search rules) (λ c. search rules) gain-row-requires (λ c. search rules)
    (λ c. search rules) loop-again folds-requires returns)
