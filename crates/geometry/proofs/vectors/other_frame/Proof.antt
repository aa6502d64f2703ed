-- By whether k lies below the reference.
use native.Mathlib.Omega.{arith}
use borrow.Author.Tests.{lt-ltb, le-ltb}
use Rattle.geometry.specs.Vectors.{other_frame}
use Rattle.geometry.proofs.vectors.other_frame as of

returns : of.Tie.Need-returns-then-k-reference
unfolding other_frame
returns c = (rw (lt-ltb _ _ c.if-k-reference.true), omega arith)

returns-2 : of.Tie.Need-returns-else-k-reference
unfolding other_frame
returns-2 c = (rw (le-ltb _ _ c.if-k-reference.false), omega arith)

pub other_frame_spec : {M : Type 1} → of.Statement.statement M
other_frame_spec = of.Tie.close (of.Tie.spec (λ c. omega arith) returns returns-2)
