-- The five pieces of the header, one after the other; and they have room.
use Rattle.std.specs.Prelude.{◌++◌, ◌≤◌, ◌<◌, ◌^◌, ℕ, length}
use Rattle.std.proofs.Common.{arith, rules, ap, ◌∙◌, length-append}
use Rattle.printing.specs.Ascii.{ascii}
use Rattle.printing.specs.Decimal.{decimal}
use Rattle.printing.specs.DecimalLaws.{decimal-length}
use Rattle.file_pgm.specs.Header.Header.{pgm_header}
use Rattle.file_pgm.proofs.header.header_text.Goals as goal

at-most : (n : ℕ) → n < 2 ^ 64 → length (decimal n) ≤ 20
at-most n h = decimal-length 19 n (omega arith)

pub put_number-requires : goal.put_number-requires
put_number-requires c =
    (search rules, omega (arith, at-most c.args.width (search rules), ap length c.new-text.ensures, ap length c.put_bytes.ensures, length-append {A = ℕ}))

pub put_byte-requires : goal.put_byte-requires
put_byte-requires c =
    (search rules, omega (arith, at-most c.args.width (search rules), ap length c.new-text.ensures, ap length c.put_bytes.ensures, ap length c.put_number.ensures, length-append {A = ℕ}))

pub put_number-requires-2 : goal.put_number-requires-2
put_number-requires-2 c = (
  search rules,
  omega (arith, at-most c.args.width (search rules), at-most c.args.height (search rules), ap length c.new-text.ensures, ap length c.put_bytes.ensures, ap length c.put_number.ensures, ap length c.put_byte.ensures, length-append {A = ℕ}),
)

pub put_bytes-requires-2 : goal.put_bytes-requires-2
put_bytes-requires-2 c = (
  search rules,
  omega (arith, at-most c.args.width (search rules), at-most c.args.height (search rules), ap length c.new-text.ensures, ap length c.put_bytes.ensures, ap length c.put_number.ensures, ap length c.put_byte.ensures, ap length c.put_number-2.ensures, length-append {A = ℕ}),
)

pub returns-clause-header : goal.returns-clause-header
unfolding pgm_header
returns-clause-header c =
    let magic = ascii "P5\n" in
    let space = ascii " " in
    let last = ascii "\n4095\n" in
    let wide = decimal c.args.width in
    let high = decimal c.args.height in
    let names = c.put_bytes.ensures ∙ ap (λ t. t ++ magic) c.new-text.ensures in
    let first = c.put_number.ensures ∙ ap (λ t. t ++ wide) names in
    let between = c.put_byte.ensures ∙ ap (λ t. t ++ space) first in
    let second = c.put_number-2.ensures ∙ ap (λ t. t ++ high) between in
    c.put_bytes-2.ensures ∙ ap (λ t. t ++ last) second

pub returns-clause-short : goal.returns-clause-short
returns-clause-short c = omega (arith, at-most c.args.width (search rules), at-most c.args.height (search rules), ap length c.new-text.ensures, ap length c.put_bytes.ensures, ap length c.put_number.ensures, ap length c.put_byte.ensures, ap length c.put_number-2.ensures, ap length c.put_bytes-2.ensures, length-append {A = ℕ})
