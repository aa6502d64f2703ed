-- What an error's text says without the system's number.
use Rattle.std.specs.Prelude.{List, ℕ, ◌≡◌, take, codes, MatchOption}
use Rattle.std.specs.Str.Pattern.{FindsText}
use Rattle.std.specs.declared.option.Option.{Option}

-- the text up to where a number first begins, or all of it if none does
abbrev pub BeforeNumber : List ℕ → List ℕ → Type 0
BeforeNumber text words =
    (found : Option (ℕ × ℕ)) × FindsText (codes " (os error ") text found × MatchOption found (words ≡ text) (λ place. words ≡ take place.0 text)
