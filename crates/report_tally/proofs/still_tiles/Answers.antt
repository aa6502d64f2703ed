-- `report_tally::still_tiles`: the chain counts the pairs of parts that are 0.
use Rattle.std.proofs.Common.{rules, ◌≡◌, ◌∙◌, ◌/◌, length}
use Rattle.std.proofs.iter.runs.Made.{chains}
use Rattle.std.specs.List.{count_by}
use Rattle.std.specs.Simd.{first_chunks}
use Rattle.report_tally.specs.Tallies.{still_tiles}
use Rattle.report_tally.proofs.Counted.{stays, counted}
use Rattle.report_tally.proofs.still_tiles.Goals as goal

pub returns : goal.returns
unfolding still_tiles
returns c =
    let parts = c.args.vectors.now in
    let e : c.count.result ≡ count_by stays (first_chunks 2 (length parts / 2) parts) = search (rules, chains) in
    e ∙ counted (length parts / 2) parts
