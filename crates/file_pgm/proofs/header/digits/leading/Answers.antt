-- The end of the bytes and a byte that is no digit end the number.
use Rattle.std.proofs.Common.{◌≡◌, ◌+◌, ◌-◌, arith}
use Rattle.file_pgm.proofs.header.Scanning.{scan-start, scan-small, scan-full, scan-end, scan-below, scan-above, scan-turn}
use Rattle.file_pgm.proofs.header.digits.leading.Goals as goal
use Rattle.file_pgm.proofs.header.digits.leading.Goals.{then-byte-lt48-via-then-byte-lt48, then-byte-lt48-via-else-byte-lt48+then-byte-gt57}

pub loop-init : goal.loop-init
loop-init c = scan-start

pub returns-then-bytes-i : goal.returns-then-bytes-i
returns-then-bytes-i c = scan-end c.loop.invariant c.if-bytes-i.true

pub returns-then-byte-lt48 : goal.returns-then-byte-lt48
returns-then-byte-lt48 c =
    elim c.then-byte-lt48.branch [
      | then-byte-lt48-via-then-byte-lt48 w ↦ scan-below c.loop.invariant (omega arith) w.if-byte-lt48.true
      | then-byte-lt48-via-else-byte-lt48+then-byte-gt57 w ↦ scan-above c.loop.invariant (omega arith) w.if-byte-lt48.false w.if-byte-gt57.true
    ]

pub overflow_mul-value : goal.overflow_mul-value
overflow_mul-value c = omega (arith, scan-small c.loop.invariant)

pub overflow_add-value : goal.overflow_add-value
overflow_add-value c = omega (arith, scan-small c.loop.invariant)

pub loop-preserved : goal.loop-preserved
loop-preserved c =
    let next : 4 - (c.loop.counter + 1) ≡ 4 - c.loop.counter - 1 = omega arith in
    rw (next, c.from.ensures) (scan-turn c.loop.invariant (omega arith) (omega arith) (omega arith) (omega arith))

pub returns : goal.returns
returns c = scan-full c.loop.invariant (omega arith)
