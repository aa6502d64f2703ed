use Rattle.std.specs.Prelude.{◌*◌, ◌-◌, ◌≤◌, ◌<◌}
use Rattle.tile_root.proofs.squares.whole_root.Given as goal

-- low² ≤ n < high²
abbrev pub invariant-loop-high : goal.invariant-loop-high
invariant-loop-high l = record { order : l.low < l.high; top : l.high ≤ 262144; from : l.low * l.low ≤ l.n; to : l.n < l.high * l.high }

abbrev pub decreases-loop-high : goal.decreases-loop-high
decreases-loop-high l = l.high - l.low
