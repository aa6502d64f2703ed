-- How large the values of a level are.
use Rattle.std.specs.Prelude.{ℕ}

-- four samples' sum, 4 · 4095; halving keeps it
abbrev pub value_most : ℕ
value_most = 16380

-- four values' weighted sum, 8 · 16380
abbrev pub column_most : ℕ
column_most = 131040
