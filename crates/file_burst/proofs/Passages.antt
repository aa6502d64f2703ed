-- Rows one by one, as far as a check sees them: where they end, or the first refusal.
use Rattle.std.specs.Prelude.{◌≡◌, ◌∷◌, ◌++◌, ◌-◌, ◌<◌, ◌≤◌}
use Rattle.file_burst.specs.Prelude.{refl, Bool, true, false, List, [], ℕ, zero, suc, arith, refuse, Part, refused, found, number_of, ◌then◌, mapped, value_line, above, judged}
use native.Mathlib.Numerals.{sub-one}
use Rattle.std.specs.Prelude.{ltb}
use Rattle.std.proofs.Math.Decide.{dec_lt}
use Rattle.std.proofs.Common.{lt-ltb, le-ltb}
use lib.ListN.{length, drop, drop_of_length-le}
use Rattle.refusals.specs.Numbers as no
use Rattle.file_burst.specs.Lines.ScanLaws.{step}
use Rattle.file_burst.specs.Rows.{unless_above, row, row_lines, ended}
use Rattle.file_burst.specs.Passage.{briefly}

-- what the judgement of a line makes of a row
abbrev pub decided : Part Bool → Part Unit
decided line = line then (λ over rest. unless_above over tt rest)

pub row-decided : (width : ℕ) (s : List ℕ) → decided (judged false 4095 (value_line width s)) ≡ briefly (row width s)
unfolding row
row-decided width s = from (value_line width s)
  where
    over : (o : Bool) (samples rest : List ℕ) → unless_above o tt rest ≡ briefly (unless_above o samples rest)
    over true samples rest = refl
    over false samples rest = refl

    from : (line : Part (List ℕ)) → decided (judged false 4095 line) ≡ briefly (line then (λ samples rest. unless_above (above 4095 samples) samples rest))
    from (refused number) = refl
    from (found samples rest) = over (above 4095 samples) samples rest

-- one row further
pub rows_step : (k width : ℕ) (s : List ℕ) → 0 < k → (briefly (row width s) then (λ a rest. briefly (row_lines (k - 1) width rest))) ≡ briefly (row_lines k width s)
unfolding row_lines
rows_step zero width s h = absurd (omega arith)
rows_step (suc k) width s h = rw (sub-one (suc k)) (from (row width s))
  where
    joined : (samples : List ℕ) (others : Part (List ℕ)) → briefly others ≡ briefly (mapped (λ others. samples ++ others) others)
    joined samples (refused number) = refl
    joined samples (found others rest) = refl

    from : (line : Part (List ℕ)) → (briefly line then (λ a rest. briefly (row_lines k width rest))) ≡ briefly (line then (λ samples rest. mapped (λ others. samples ++ others) (row_lines k width rest)))
    from (refused number) = refl
    from (found samples rest) = joined samples (row_lines k width rest)

pub rows_none : (k width : ℕ) (s : List ℕ) → k ≤ 0 → found tt s ≡ briefly (row_lines k width s)
unfolding row_lines
rows_none zero width s h = refl
rows_none (suc k) width s h = absurd (omega arith)

-- the number at the end of the file
pub ended-briefly : {A : Type 0} (part : Part A) → number_of (ended (briefly part)) ≡ number_of (ended part)
ended-briefly (refused number) = refl
ended-briefly (found a []) = refl
ended-briefly (found a (byte ∷ rest)) = refl

module _ {A : Type 0} (a : A) (s : List ℕ) (i : ℕ) where
  pub file-end : refuse no.file_end (ltb i (length s)) ≡ number_of (ended (found a (drop i s)))
  file-end = from (dec_lt i (length s))
    where
      from : Dec (i < length s) → refuse no.file_end (ltb i (length s)) ≡ number_of (ended (found a (drop i s)))
      from (yes h) = rw (lt-ltb i (length s) h, step s i h)
      from (no h) = let all : length s ≤ i = omega arith in rw (le-ltb i (length s) all, drop_of_length-le s all)
