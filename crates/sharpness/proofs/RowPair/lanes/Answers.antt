-- The closure gives the steps of two words at each index.
use Rattle.std.proofs.Common.{rules}
use Rattle.sharpness.specs.Prelude.{sample_at}
use Rattle.sequences.specs.MadeLaws.{made-tab}
use Rattle.sharpness.specs.Words.{word_steps, lane_of}
use Rattle.sharpness.proofs.RowPair.lanes.Goals as goal

pub returns : goal.returns
returns c =
    let s = c.args.self in
    made-tab c.from_fn.ensures.items (lane_of (word_steps (sample_at s.shape s.samples.now s.frame) s.row s.down) c.args.column) (λ i y q h d. search rules)
