-- The header in front, and what stood behind it.
use Rattle.std.specs.Prelude.{◌≡◌, ◌++◌, ◌+◌, ◌≤◌, List, ℕ, length, drop, refl}
use Rattle.std.proofs.Common.{arith, ap, ◌∙◌, length-append, length-drop}
use Rattle.printing.specs.Put.{put, Printed}
use Rattle.file_pgm.specs.Header.Header.{pgm_header}
use Rattle.file_pgm.proofs.header.put_header.Goals as goal

in-front : (bytes text : List ℕ) {found : List ℕ} → found ≡ text → length text ≤ length bytes → Printed bytes 0 text (found ++ drop (length found) bytes) (length found)
unfolding put
in-front bytes text e h =
    rw e
    (record {
      text = let none : 0 + length text ≡ length text = omega arith in rw none refl;
      place = omega arith;
      same = rw length-append (omega (arith, length-drop (length text) bytes));
    })

pub returns : goal.returns
returns c =
    let text = c.as_bytes-header.ensures.text ∙ c.header_text-text.ensures.header in
    let short = c.header_text-text.ensures.short in
    let fits : length (pgm_header c.args.width c.args.height) ≤ length c.args.bytes.now = omega (arith, ap length c.header_text-text.ensures.header) in
    (rw c.copy_from_slice.ensures.after (in-front c.args.bytes.now (pgm_header c.args.width c.args.height) text fits), omega (arith, ap length c.as_bytes-header.ensures.text))
