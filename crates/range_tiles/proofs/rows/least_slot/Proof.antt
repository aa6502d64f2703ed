-- Two rows take 64 words for each of the frame's width.
use Rattle.range_tiles.specs.Prelude.{rules, row_words}
use Rattle.range_tiles.proofs.rows.least_slot as of

returns : of.Tie.Need-returns
unfolding row_words
returns c = search rules

pub least_slot_spec : {M : Type 1} → of.Statement.statement M
least_slot_spec = of.Tie.close (of.Tie.spec (λ c. search rules) (λ c. search rules) (λ c κs. search rules) (λ c. search rules) returns)
