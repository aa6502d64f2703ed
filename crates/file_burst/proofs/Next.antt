-- The values of rows that are found are the next values, across the lines.
use Rattle.std.specs.Prelude.{◌+◌, ◌*◌}
use Rattle.file_burst.specs.Prelude.{sym, ap, ◌∙◌, ℕ, zero, suc, arith, refuse, found, value_line, above, next_values}
use mathlib.Core.List.{List, ◌++◌, append_assoc}
use native.Mathlib.Nat.{suc-mul}
use Rattle.refusals.specs.Numbers as no
use Rattle.file_burst.specs.Lines.PartLaws.{Sound, unless-sound, then-sound}
use Rattle.file_burst.specs.Lines.ScanLaws.{Next, line-next}
use Rattle.file_burst.specs.Rows.{row, row_lines}

next-join : (a b : ℕ) (s t rest values others : List ℕ) → Next a s values t → Next b t others rest → Next (a + b) s (values ++ others) rest
next-join a b s t rest values others p q m =
    ap (λ (n : ℕ). next_values n s) (omega arith) ∙ p (b + m) ∙ ap (λ (x : List ℕ). values ++ x) (q m) ∙ sym (append_assoc values others (next_values m rest))

row_next : (width : ℕ) (s : List ℕ) → Sound (Next width s) (row width s)
unfolding row
row_next width s =
    then-sound (Next width s) (Next width s) (value_line width s) _ (line-next width s)
    (λ values rest next. unless-sound (Next width s) (refuse no.sample_value (above 4095 values)) (found values rest) (λ e. next))

pub rows_next : (count width : ℕ) (s : List ℕ) → Sound (Next (count * width) s) (row_lines count width s)
unfolding row_lines
rows_next zero width s = λ m. ap (λ (n : ℕ). next_values n s) (omega arith)
rows_next (suc count) width s =
    then-sound (Next width s) (Next (suc count * width) s) (row width s) _ (row_next width s)
    (λ values t p. then-sound (Next (count * width) t) (Next (suc count * width) s) (row_lines count width t) _ (rows_next count width t)
    (λ others rest q m. ap (λ (n : ℕ). next_values (n + m) s) (omega (arith, suc-mul count width)) ∙ next-join width (count * width) s t rest values others p q m))
