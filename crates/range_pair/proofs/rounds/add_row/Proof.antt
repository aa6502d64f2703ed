-- Both sums are stored one after the other.
use Rattle.std.specs.Prelude.{◌-◌, ◌%◌, ◌+ℤ◌}
use Rattle.range_pair.specs.Prelude.{ap, ap₂, ◌∙◌, arith, rules, get_or, pos, w64}
use Rattle.sequences.specs.TabLaws.{Filled, fill_start, fill_done}
use Rattle.tile_spectrum.specs.Lines.Held.{held-is, held-most}
use Rattle.tile_spectrum.specs.AddingLaws.{adding-fits, adding-turn}
use Rattle.range_pair.specs.Factors.{greatest_of, least_of}
use Rattle.range_pair.specs.Added.{half_end}
use Rattle.range_pair.proofs.rounds.add_row as of

abbrev invariant-loop-l : of.Tie.invariant-loop-l
invariant-loop-l a b widths greatest₀ least₀ l₀ greatest least l =
    (Filled (λ l. get_or greatest₀ l (pos 0) +ℤ half_end a b widths greatest_of l) 32 l greatest₀ greatest)
    × (Filled (λ l. get_or least₀ l (pos 0) +ℤ half_end a b widths least_of l) 32 l least₀ least)

abbrev decreases-loop-l : of.Tie.decreases-loop-l
decreases-loop-l a b widths greatest₀ least₀ l₀ greatest least l = 32 - l

greatest-of-requires : of.Tie.Need-greatest_of-g-requires invariant-loop-l decreases-loop-l
greatest-of-requires c κs =
    let l = c in
    let p = l.requires in
    record { first = held-most w64 p.low_in l.loop-l.l tt; second = held-most w64 p.high_in l.loop-l.l tt; width-most = p.widths_most.at (l.loop-l.l % 16) }

least-of-requires : of.Tie.Need-least_of-k-requires invariant-loop-l decreases-loop-l
least-of-requires c κs =
    let l = c in
    let p = l.requires in
    record { first = held-most w64 p.low_in l.loop-l.l tt; second = held-most w64 p.high_in l.loop-l.l tt; width-most = p.widths_most.at (l.loop-l.l % 16) }

add-greatest : of.Tie.Need-overflow_add-greatest invariant-loop-l decreases-loop-l
add-greatest c =
    let g = c in
    let l = g in
    adding-fits l.loop-l.invariant.0 (omega arith) l.requires.greatests.most g.greatest_of-g.ensures.1 tt tt

add-least : of.Tie.Need-overflow_add-least invariant-loop-l decreases-loop-l
add-least c =
    let k = c in
    let l = k in
    adding-fits l.loop-l.invariant.1 (omega arith) l.requires.leasts.most k.least_of-k.ensures.1 tt tt

loop-again : of.Tie.Need-loop-l-preserved invariant-loop-l decreases-loop-l
loop-again c =
    let k = c.before.before in
    let g = k in
    let l = g in
    let s = l in
    let i = l.loop-l.l in
    let w = get_or s.args.widths.now (i % 16) 0 in
    let low = held-is w64 s.requires.low_in i tt in
    let high = held-is w64 s.requires.high_in i tt in (
      adding-turn l.loop-l.invariant.0 (omega arith) s.requires.greatests.most g.greatest_of-g.ensures.1 tt tt
          (ap (λ z. get_or s.args.greatest.now i (pos 0) +ℤ z) (g.greatest_of-g.ensures.0 ∙ ap₂ (λ a b. greatest_of a b w) low high)),
      adding-turn l.loop-l.invariant.1 (omega arith) s.requires.leasts.most k.least_of-k.ensures.1 tt tt
          (ap (λ z. get_or s.args.least.now i (pos 0) +ℤ z) (k.least_of-k.ensures.0 ∙ ap₂ (λ a b. least_of a b w) low high)),
    )

pub add_row_spec : {M : Type 1} → of.Statement.statement M
add_row_spec = of.Tie.close (of.Tie.spec
    invariant-loop-l decreases-loop-l (λ c. (fill_start c.requires.greatests.long, fill_start c.requires.leasts.long))
    (λ c. search rules) (λ c. search rules) (λ c. search rules) (λ c. search rules) (λ c. search rules) (λ c. search rules)
    greatest-of-requires
    (λ c. search rules) (λ c. search rules) (λ c. search rules) (λ c. search rules) (λ c. search rules) (λ c. search rules)
    least-of-requires
    (λ c. search rules) (λ c. search rules) add-greatest (λ c. search rules) (λ c. search rules)
    (λ c. search rules) (λ c. search rules) add-least (λ c. search rules) (λ c. search rules)
    (λ c. search rules) (λ c. search rules) loop-again
    (λ c. record { greatest_is = fill_done c.loop-l.invariant.0 (omega arith); least_is = fill_done c.loop-l.invariant.1 (omega arith) }))
