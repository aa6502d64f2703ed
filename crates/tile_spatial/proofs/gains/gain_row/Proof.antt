-- Both parts are stored one after the other.
use Rattle.std.specs.Prelude.{◌≡◌, ◌-◌}
use Rattle.tile_spatial.specs.Prelude.{ap₂, ◌∙◌, arith, rules, get_or, w64, to_z, of_z, side16, copy_filtered}
use Rattle.sequences.specs.TabLaws.{Filled, fill_start, fill-turn, fill_done}
use Rattle.tile_spectrum.specs.Lines.Held.{number_is, number-most}
use Rattle.tile_spatial.specs.Steps.{lane_re, lane_im}
use Rattle.tile_spatial.proofs.gains.gain_row as of

abbrev invariant-loop-l : of.Tie.invariant-loop-l
invariant-loop-l w noises u g₀ h₀ l₀ g h l = (Filled (lane_re noises w u) 18 l g₀ g) × (Filled (lane_im noises w u) 18 l h₀ h)

abbrev decreases-loop-l : of.Tie.decreases-loop-l
decreases-loop-l w noises u g₀ h₀ l₀ g h l = 18 - l

loop-holds : of.Tie.Need-loop-l-init invariant-loop-l decreases-loop-l
loop-holds c =
    (fill_start c.requires.g_long, fill_start c.requires.h_long)

bin-re-requires : of.Tie.Need-bin_re-a-requires invariant-loop-l decreases-loop-l
bin-re-requires c κs =
    let s = c in
    record { places_most = s.requires.places_most; u_below = s.requires.u_below; l_below = omega arith }

bin-im-requires : of.Tie.Need-bin_im-b-requires invariant-loop-l decreases-loop-l
bin-im-requires c κs =
    let s = c in
    record { places_most = s.requires.places_most; u_below = s.requires.u_below; l_below = omega arith }

filtered-part-requires : of.Tie.Need-filtered_part-requires invariant-loop-l decreases-loop-l
filtered-part-requires c κs =
    let b = c in
    let a = b in
    let l = a in
    record { noise-most = l.requires.noises_most.at l.loop-l.l; part = number-most w64 a.bin_re-a.ensures.1 tt; other = number-most w64 b.bin_im-b.ensures.1 tt }

filtered-part-requires-2 : of.Tie.Need-filtered_part-requires-in-loop-l invariant-loop-l decreases-loop-l
filtered-part-requires-2 c κs =
    let b = c in
    let a = b in
    let l = a in
    record { noise-most = l.requires.noises_most.at l.loop-l.l; part = number-most w64 b.bin_im-b.ensures.1 tt; other = number-most w64 a.bin_re-a.ensures.1 tt }

loop-again : of.Tie.Need-loop-l-preserved invariant-loop-l decreases-loop-l
unfolding lane_re lane_im
loop-again c =
    let g = c.before.before in
    let b = g in
    let a = b in
    let l = a in
    let n = get_or l.args.noises.now l.loop-l.l 0 in
    let re = number_is w64 a.bin_re-a.ensures.1 tt ∙ a.bin_re-a.ensures.0 in
    let im = number_is w64 b.bin_im-b.ensures.1 tt ∙ b.bin_im-b.ensures.0 in
    let d : to_z w64 (of_z w64 g.filtered_part.result) ≡ g.filtered_part.result = search rules in
    let e : to_z w64 (of_z w64 c.filtered_part-in-loop-l.result) ≡ c.filtered_part-in-loop-l.result = search rules in (
      fill-turn l.loop-l.invariant.0 (omega arith) (d ∙ g.filtered_part.ensures.0 ∙ ap₂ (copy_filtered side16 n) re im),
      fill-turn l.loop-l.invariant.1 (omega arith) (e ∙ c.filtered_part-in-loop-l.ensures.0 ∙ ap₂ (copy_filtered side16 n) im re),
    )

returns : of.Tie.Need-returns invariant-loop-l decreases-loop-l
returns c =
    (fill_done c.loop-l.invariant.0 (omega arith), fill_done c.loop-l.invariant.1 (omega arith))

pub gain_row_spec : {M : Type 1} → of.Statement.statement M
gain_row_spec = of.Tie.close (of.Tie.spec
    invariant-loop-l decreases-loop-l loop-holds bin-re-requires bin-im-requires (λ c. search rules)
    (λ c. search rules) filtered-part-requires (λ c. search rules) (λ c. search rules)
    (λ c. search rules) (λ c. search rules) filtered-part-requires-2 (λ c. search rules)
    (λ c. search rules) (λ c. search rules) (λ c. search rules) loop-again returns)
