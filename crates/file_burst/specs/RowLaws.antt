-- Rows are read exactly where the grammar has them with no value above 4095.
use Rattle.file_burst.specs.Prelude.{refl, sym, ap, ◌∙◌, Bool, true, false, false≢true, List, [], ℕ, zero, suc, arith, get_or, refuse, Part, refused, found, value_line, above}
use Rattle.std.specs.Prelude.{ltb, ◌≡◌, ◌||◌, ◌∷◌, ◌++◌, ◌≤◌}
use Rattle.std.proofs.Common.{ltb-false, le-ltb}
use Rattle.refusals.specs.Numbers as no
use Rattle.refusals.specs.TestLaws.{refuse-not}
use Rattle.file_burst.specs.Lines.PartLaws.{Sound, unless-sound, then-sound}
use Rattle.file_burst.specs.Lines.Grammar.{ValueLine}
use Rattle.file_burst.specs.Lines.LineLaws.{line-sound, line-complete}
use Rattle.file_burst.specs.Rows.{row, row_lines, ended}
use Rattle.file_burst.specs.Grammar.{Rows, no_row, row_then}

neither : (a b : Bool) → (a || b) ≡ false → (a ≡ false) × (b ≡ false)
neither false b e = (refl, e)
neither true b e = absurd (false≢true (sym e))

-- none is above the bound
pub above_at : (bound : ℕ) (values : List ℕ) → above bound values ≡ false → (j : ℕ) → get_or values j 0 ≤ bound
unfolding above
above_at bound [] e j = omega arith
above_at bound (v ∷ values) e zero = ltb-false bound v (neither (ltb bound v) (above bound values) e).0
above_at bound (v ∷ values) e (suc j) = above_at bound values (neither (ltb bound v) (above bound values) e).1 j

pub above-none : (bound : ℕ) (values : List ℕ) → ((j : ℕ) → get_or values j 0 ≤ bound) → above bound values ≡ false
unfolding above
above-none bound [] most = refl
above-none bound (v ∷ values) most = rw (le-ltb bound v (most 0)) (above-none bound values (λ j. most (suc j)))

above-append : (bound : ℕ) (a b : List ℕ) → above bound (a ++ b) ≡ (above bound a || above bound b)
unfolding above
above-append bound [] b = refl
above-append bound (v ∷ a) b = ap (λ (x : Bool). ltb bound v || x) (above-append bound a b) ∙ regroup (ltb bound v) (above bound a) (above bound b)
  where
    regroup : (x y z : Bool) → (x || (y || z)) ≡ ((x || y) || z)
    regroup true y z = refl
    regroup false y z = refl

-- a row and rows of the grammar with no value above 4095
abbrev SmallLine : (width : ℕ) (s values rest : List ℕ) → Type 0
SmallLine width s values rest = ValueLine width s values rest × (above 4095 values ≡ false)

abbrev pub SmallRows : (count width : ℕ) (s values rest : List ℕ) → Type 0
SmallRows count width s values rest = Rows count width s values rest × (above 4095 values ≡ false)

row-sound : (width : ℕ) (s : List ℕ) → Sound (SmallLine width s) (row width s)
unfolding row
row-sound width s =
    then-sound (ValueLine width s) (SmallLine width s) (value_line width s) _ (line-sound width s)
    (λ values rest l. unless-sound (SmallLine width s) (refuse no.sample_value (above 4095 values)) (found values rest) (λ e. (l, refuse-not no.sample_value (above 4095 values) tt e)))

pub rows-sound : (count width : ℕ) (s : List ℕ) → Sound (SmallRows count width s) (row_lines count width s)
unfolding row_lines above
rows-sound zero width s = (no_row, refl)
rows-sound (suc count) width s =
    then-sound (SmallLine width s) (SmallRows (suc count) width s) (row width s) _ (row-sound width s)
    (λ values t l. then-sound (SmallRows count width t) (SmallRows (suc count) width s) (row_lines count width t) _ (rows-sound count width t)
    (λ others rest o. (row_then l.0 o.0, above-append 4095 values others ∙ rw l.1 o.1)))

pub rows-complete : {count width : ℕ} {s values rest : List ℕ} → Rows count width s values rest → above 4095 values ≡ false → row_lines count width s ≡ found values rest
unfolding row_lines row
rows-complete no_row e = refl
rows-complete (row_then {values = values} {others = others} l o) e =
    let small = neither (above 4095 values) (above 4095 others) (sym (above-append 4095 values others) ∙ e) in
    rw (line-complete l, small.0, rows-complete o small.1)

-- nothing follows what is found at the end of the file
pub ended-sound : {A : Type 0} (P : A → List ℕ → Type 0) (part : Part A) → Sound P part → Sound (λ a rest. P a [] × (rest ≡ [])) (ended part)
ended-sound P (refused number) s = s
ended-sound P (found a []) s = (s, refl)
ended-sound P (found a (byte ∷ rest)) s = λ e. absurd (omega arith)
