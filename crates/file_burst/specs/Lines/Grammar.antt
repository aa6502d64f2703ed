-- The grammar of a line of values: which bytes are a line with which values, whatever the order of reading. No contract needs it: `line-sound` and
-- `line-complete` (LineLaws) say of what the contracts read that it is this.
use Rattle.std.specs.Prelude.{◌≡◌, ◌∷◌, ◌++◌, ◌-◌, ◌+◌, ◌*◌, ◌≤◌}
use Rattle.file_burst.specs.Lines.Prelude.{List, [], ℕ, length}

-- decimal digits: the bytes `0` to `9`
pub data Digits : List ℕ → Type 0 where
  no_digit : Digits []
  digit : {byte : ℕ} {rest : List ℕ} → 48 ≤ byte → byte ≤ 57 → Digits rest → Digits (byte ∷ rest)

-- the number that digits write behind those of the number `value`
unfoldable pub number_from : (value : ℕ) → List ℕ → ℕ
number_from value [] = value
number_from value (byte ∷ rest) = number_from (value * 10 + (byte - 48)) rest

-- "Values are 1 to 9 decimal digits, leading zeros allowed"
pub record Value (text : List ℕ) (value : ℕ) : Type 0 where
  pub digits : Digits text
  pub some : 1 ≤ length text
  pub few : length text ≤ 9
  pub is : value ≡ number_from 0 text

-- "one or more spaces"
pub data Spaces : List ℕ → Type 0 where
  space : Spaces (32 ∷ [])
  spaces : {rest : List ℕ} → Spaces rest → Spaces (32 ∷ rest)

-- "one or more spaces between, none at either end of a line"
pub data Values : (text values : List ℕ) → Type 0 where
  value : {text : List ℕ} {v : ℕ} → Value text v → Values text (v ∷ [])
  value_then : {text gap others values : List ℕ} {v : ℕ} → Value text v → Spaces gap → Values others values → Values (text ++ (gap ++ others)) (v ∷ values)

-- "each line ends in LF": a line of `count` values, and what follows it
pub record ValueLine (count : ℕ) (bytes values rest : List ℕ) : Type 0 where
  pub text : List ℕ
  pub is : bytes ≡ text ++ 10 ∷ rest
  pub grammar : Values text values
  pub counted : length values ≡ count
