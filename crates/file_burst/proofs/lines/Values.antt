-- The values of a line one by one, and a line's LF.
use Rattle.std.specs.Prelude.{◌≡◌, ◌||◌, ◌∷◌, ◌-◌, ◌<◌, ◌≤◌}
use Rattle.file_burst.specs.Lines.Prelude.{refl, ap, ◌∙◌, Bool, true, false, cond, List, [], ℕ, zero, suc, arith, ltb, eqb, drop}
use native.Mathlib.Numerals.{sub-one}
use Rattle.refusals.specs.Numbers as no
use Rattle.file_burst.specs.Lines.Part.{Part, refused, found, unless, mapped}
use Rattle.file_burst.specs.Lines.Line.{last, item_of, after_item, values_of, has_lf, line_end, value_line, above}
use Rattle.file_burst.specs.Lines.Scan.{line_in, malformed_line, ended_line, judged}
use Rattle.std.specs.Prelude.{Result, Ok}
use Rattle.refusals.specs.declared.Refusal.{Refusal}
use Rattle.file_burst.specs.declared.lines.Line.{Line}
use Rattle.file_burst.specs.Lines.Grammar.{ValueLine}
use Rattle.file_burst.specs.Lines.LineLaws.{values-sound, line-lf}
use Rattle.file_burst.specs.Lines.PartLaws.{Sound, found-refused}

-- one value further
pub values-step : (k : ℕ) (s : List ℕ) → 0 < k → values_of k s ≡ after_item (k - 1) (λ t. values_of (k - 1) t) (item_of s)
unfolding values_of
values-step zero s h = absurd (omega arith)
values-step (suc k) s h = rw (sub-one (suc k))

pub values-none : (k : ℕ) (s : List ℕ) → k ≤ 0 → values_of k s ≡ refused no.wrong_value_line
unfolding values_of
values-none zero s h = refl
values-none (suc k) s h = absurd (omega arith)

-- the judgement so far, with the last value's
judged-last : (a : Bool) (bound v : ℕ) (rest : List ℕ) → found (a || ltb bound v) rest ≡ judged a bound (found (v ∷ []) rest)
unfolding above
judged-last a bound v rest = ap (λ (o : Bool). found o rest) (or-false a (ltb bound v))
  where
    or-false : (a b : Bool) → (a || b) ≡ (a || (b || false))
    or-false true b = refl
    or-false false true = refl
    or-false false false = refl

abbrev ended : (next : ℕ) (over : Bool) → Result Line Refusal
ended next over = Ok (record { next = next; over = over })

-- the judgement of a line that ends with this value
pub judged-end : (left next : ℕ) (a : Bool) (bound v : ℕ) (file : List ℕ) (others : List ℕ → Part (List ℕ)) → line_in file (ended_line left next (a || ltb bound v)) ≡ judged a bound (after_item left others (last v (drop next file)))
judged-end left next a bound v file others = from (eqb left 0)
  where
    from : (none : Bool) → line_in file (cond none (ended next (a || ltb bound v)) malformed_line) ≡ judged a bound (cond none (found (v ∷ []) (drop next file)) (refused no.wrong_value_line))
    from true = judged-last a bound v (drop next file)
    from false = refl

-- the judgement so far, with one value's more
pub judged-more : (a : Bool) (bound v : ℕ) (line : Part (List ℕ)) → judged (a || ltb bound v) bound line ≡ judged a bound (mapped (λ values. v ∷ values) line)
unfolding above
judged-more true bound v (found values rest) = refl
judged-more false bound v (found values rest) = refl
judged-more a bound v (refused number) = refl

-- a line that is found has its LF
pub line-found : (k : ℕ) (s : List ℕ) (bound : ℕ) (o : Bool) (t : List ℕ) → found o t ≡ judged false bound (values_of k s) → found o t ≡ judged false bound (value_line k s)
line-found k s bound o t e = from (values_of k s) (values-sound k s) e
  where
    from : (line : Part (List ℕ)) → Sound (ValueLine k s) line → found o t ≡ judged false bound line → found o t ≡ judged false bound (unless (line_end s) line)
    from (refused number) l e = absurd (found-refused e)
    from (found values rest) l e = rw (ap has_lf l.is ∙ line-lf l.text rest) e
