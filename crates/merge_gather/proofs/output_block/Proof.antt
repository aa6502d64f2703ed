-- One part of side 16, two of side 32.
use Rattle.std.specs.Prelude.{◌≡◌}
use Rattle.algebra.specs.Prelude.{refl, ℕ, arith, rules, length}
use Rattle.sequences.specs.Write.{write-start, write_done}
use Rattle.merge_gather.specs.Ready.{BlockReady}
use Rattle.merge_gather.proofs.Weighing.{part_room, wide_is}
use Rattle.merge_gather.proofs.Blocks.{part-turn}
use Rattle.merge_gather.proofs.output_block as of

ready : (s : of.Tie.Start) (n : ℕ) → n ≡ length s.args.output.now → BlockReady s.args.span s.args.by (length s.args.samples.now) n s.args.work.now s.args.lower.now s.args.upper.now
ready s n same = record { weighed = s.requires.weighed; divided = s.requires.divided; samples_room = s.requires.samples_room; output_room = omega (arith, s.requires.output_room, same) }

output-part-requires : of.Tie.Need-output_part-requires
output-part-requires c κs = let s = c.before.before.before in (ready s _ refl, part_room s.requires.weighed.sided)

returns : of.Tie.Need-returns-then-span-eq-PART
returns c =
    let s = c in
    let a = s.args in
    write_done (part-turn a.samples.now a.work.now a.span a.by.count 0 (write-start s.requires.output_room) (part_room s.requires.weighed.sided)
    c.output_part.ensures) (omega (arith, c.if-span-eq-PART.true))

output-part-requires-2 : of.Tie.Need-output_part-requires-2
output-part-requires-2 c κs =
    let s = c.before.before.before.before.before.before.before.before.before in
    (ready s _ (search rules), omega (arith, wide_is s.requires.weighed.sided c.if-span-eq-PART.false))

returns-2 : of.Tie.Need-returns
returns-2 c =
    let first = c in
    let s = first in
    let a = s.args in
    let side = wide_is s.requires.weighed.sided c.if-span-eq-PART.false in
    let w = part-turn a.samples.now a.work.now a.span a.by.count 0 (write-start s.requires.output_room) (omega (arith, side)) first.output_part.ensures in
    write_done (part-turn a.samples.now a.work.now a.span a.by.count 1 w (omega (arith, side)) c.output_part-2.ensures) (omega (arith, side))

pub output_block_spec : {M : Type 1} → of.Statement.statement M
output_block_spec = of.Tie.close (of.Tie.spec output-part-requires (λ c. search rules) returns output-part-requires-2 (λ c. search rules) returns-2)
