-- The sums are stored one after the other.
use Rattle.std.specs.Prelude.{◌≡◌, ◌-◌, ◌+ℤ◌, ◌*ℤ◌}
use Rattle.algebra.specs.Prelude.{sym, ap₂, subst, ◌∙◌, arith, rules, get_or, pos, w64, to_z, of_z}
use Rattle.sequences.specs.TabLaws.{Filled, fill_start, fill-turn, fill-rest, fill_done}
use Rattle.tile_spectrum.specs.Lines.Held.{held-is, held-most}
use Rattle.tile_spatial.specs.Filtering.{SumMost}
use Rattle.tile_spatial.proofs.Sums64.{sum-held}
use Rattle.tile_spatial.proofs.adding.add_row as of

abbrev invariant-loop-l : of.Tie.invariant-loop-l
invariant-loop-l frames p sum₀ l₀ sum l = Filled (λ l. get_or sum₀ l (pos 0) +ℤ pos frames *ℤ get_or p l (pos 0)) 32 l sum₀ sum

abbrev decreases-loop-l : of.Tie.decreases-loop-l
decreases-loop-l frames p sum₀ l₀ sum l = 32 - l

add-part-requires : of.Tie.Need-add_part-requires invariant-loop-l decreases-loop-l
add-part-requires c κs =
    let l = c in
    let s = l in
    let e = fill-rest l.loop-l.invariant (omega arith) (pos 0) in
    record { frames_fit = s.requires.frames_fit; part = held-most w64 s.requires.part l.loop-l.l tt; sum-most = subst (SumMost s.args.frames) (sym (sum-held l.loop-l.sum l.loop-l.l s.requires.frames_fit s.requires.sums e)) (s.requires.sums.at l.loop-l.l) }

loop-again : of.Tie.Need-loop-l-preserved invariant-loop-l decreases-loop-l
loop-again c =
    let l = c in
    let s = l in
    let e = fill-rest l.loop-l.invariant (omega arith) (pos 0) in
    let d : to_z w64 (of_z w64 c.add_part.result) ≡ c.add_part.result = search rules in
    fill-turn l.loop-l.invariant (omega arith)
    (d ∙ c.add_part.ensures ∙ ap₂ (λ a b. a +ℤ pos s.args.frames *ℤ b) (sum-held l.loop-l.sum l.loop-l.l s.requires.frames_fit s.requires.sums e) (held-is w64 s.requires.part l.loop-l.l tt))

returns : of.Tie.Need-returns invariant-loop-l decreases-loop-l
returns c =
    fill_done c.loop-l.invariant (omega arith)

pub add_row_spec : {M : Type 1} → of.Statement.statement M
add_row_spec = of.Tie.close (of.Tie.spec
    invariant-loop-l decreases-loop-l (λ c. fill_start c.requires.long) (λ c. search rules) (λ c. search rules)
    (λ c. search rules) (λ c. search rules) add-part-requires (λ c. search rules)
    (λ c. search rules) (λ c. search rules) (λ c. search rules) loop-again returns)
