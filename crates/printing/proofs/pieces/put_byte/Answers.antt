-- One store.
use Rattle.printing.specs.PutLaws.{printed-byte}
use Rattle.printing.proofs.pieces.put_byte.Goals as goal

pub returns : goal.returns
returns c = printed-byte c.requires
