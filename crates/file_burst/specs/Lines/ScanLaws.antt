-- The byte at a position; the values of a line that is found are the next values.
use Rattle.file_burst.specs.Lines.Prelude.{refl, sym, ap, ◌∙◌, Bool, true, false, cond, ℕ, zero, suc, arith, eqb, length, get_or, drop}
use Rattle.std.specs.Prelude.{List, [], ◌∷◌, ◌++◌, ◌≡◌, ◌+◌, ◌<◌}
use Rattle.std.proofs.Common.{append-nil, add-zero, add-one, drop-cons, eqb-true}
use Rattle.refusals.specs.Numbers as no
use Rattle.file_burst.specs.Lines.Part.{Part, refused, found}
use Rattle.file_burst.specs.Lines.PartLaws.{Sound, unless-sound, found-refused, then-sound}
use Rattle.file_burst.specs.Lines.Line.{Item, last, more, bad, item_of, after_item, values_of, line_end, value_line}
use Rattle.file_burst.specs.Lines.LineLaws.{malformed}
use Rattle.file_burst.specs.Lines.Scan.{value_in, rest_in, next_values, judged}

pub step : (s : List ℕ) (i : ℕ) → i < length s → drop i s ≡ get_or s i 0 ∷ drop (i + 1) s
step s i h = rw (add-one, drop-cons s i 0)

-- the next values of s are `count` values and, with any m more, those of `rest`
abbrev pub Next : (count : ℕ) (s values rest : List ℕ) → Type 0
Next count s values rest = (m : ℕ) → next_values (count + m) s ≡ values ++ next_values m rest

pub next-all : (count : ℕ) (s values rest : List ℕ) → Next count s values rest → next_values count s ≡ values
unfolding next_values
next-all count s values rest next = ap (λ (n : ℕ). next_values n s) (sym (add-zero count)) ∙ next 0 ∙ append-nil values

values-next : (count : ℕ) (s : List ℕ) → Sound (Next count s) (values_of count s)
unfolding values_of next_values
values-next zero s = malformed
values-next (suc count) s = from (item_of s) (λ m. refl) (λ t. values-next count t)
  where
    from : (item : Item) → ((m : ℕ) → next_values (suc m) s ≡ value_in item ∷ next_values m (rest_in item)) → ((t : List ℕ) → Sound (Next count t) (values_of count t))
        → Sound (Next (suc count) s) (after_item count (λ t. values_of count t) item)
    from (last v rest) one again = ends (eqb count 0) refl
      where
        ends : (x : Bool) → eqb count 0 ≡ x → Sound (Next (suc count) s) (cond x (found (v ∷ []) rest) (refused no.wrong_value_line))
        ends true p = λ m. ap (λ (k : ℕ). next_values k s) (alone m (eqb-true count 0 p)) ∙ one m
          where
            alone : (m : ℕ) → count ≡ 0 → suc count + m ≡ suc m
            alone m e = omega arith
        ends false p = malformed
    from (more v rest) one again =
        then-sound (Next count rest) (Next (suc count) s) (values_of count rest) _ (again rest)
        (λ values t next m. let e : suc count + m ≡ suc (count + m) = omega arith in ap (λ (k : ℕ). next_values k s) e ∙ one (count + m) ∙ ap (λ (x : List ℕ). v ∷ x) (next m))
    from bad one again = malformed

pub line-next : (count : ℕ) (s : List ℕ) → Sound (Next count s) (value_line count s)
line-next count s = unless-sound (Next count s) (line_end s) (values_of count s) (λ e. values-next count s)

-- a line that is judged was found, with the next values, or has the refusal
pub line-found-next : (k : ℕ) (s : List ℕ) (bound : ℕ) (o : Bool) (t : List ℕ) → found o t ≡ judged false bound (value_line k s) → value_line k s ≡ found (next_values k s) t
line-found-next k s bound o t e = from (value_line k s) (line-next k s) e
  where
    from : (line : Part (List ℕ)) → Sound (Next k s) line → found o t ≡ judged false bound line → line ≡ found (next_values k s) t
    from (refused number) next e = absurd (found-refused e)
    from (found values rest) next e = let same : t ≡ rest = cc in rw (same, next-all k s values rest next)

pub line_refused : (bound number : ℕ) (line : Part (List ℕ)) → refused number ≡ judged false bound line → line ≡ refused number
line_refused bound number (refused n) e = let same : n ≡ number = cc in ap refused same
line_refused bound number (found values rest) e = absurd (found-refused (sym e))
