-- The head of a file, test by test.
use Rattle.std.specs.Prelude.{eqb, ◌≡◌, ◌++◌}
use Rattle.std.specs.List.{starts_with as library-starts}
use Rattle.std.proofs.lemmas.Slice.Eq.{starts_is}
use Rattle.std.proofs.lemmas.Bool.Decides.{Decides-eqb}
use Rattle.file_burst.specs.Head.Prelude.{refl, sym, ap, ◌∙◌, Bool, true, false, List, ℕ, length, drop, Part, refused, found, ◌then◌, value_line, next_values, judged}
use Rattle.refusals.specs.declared.Refusal.{Refusal}
use Rattle.refusals.specs.Refused.{refusal_number}
use Rattle.file_burst.specs.Lines.PartLaws.{unless-refused, unless-goes}
use Rattle.file_burst.specs.Lines.ScanLaws.{line-found-next, line_refused}
use Rattle.file_burst.specs.Head.Head.{starts_with, first_line_refusal, header_of, header_refusal, tested, head_of}
use Rattle.file_burst.specs.Head.HeadLaws.{starts-sound, starts-complete}
use Rattle.file_burst.specs.declared.head.Header.{Header}

-- the library's test of what a file begins with
pub starts-same : (text file : List ℕ) → library-starts eqb file text ≡ starts_with text file
starts-same text file = from (library-starts eqb file text) (starts_with text file) refl (starts_is Decides-eqb file text (library-starts eqb file text) refl)
  where
    from : (r d : Bool) → d ≡ starts_with text file → (r ≡ true → file ≡ text ++ drop (length text) file) × ((rest : List ℕ) → file ≡ text ++ rest → r ≡ true) → r ≡ d
    from true d e is = sym (e ∙ ap (starts_with text) (is.0 refl) ∙ starts-complete text (drop (length text) file))
    from false true e is = is.1 (drop (length text) file) (starts-sound text file (sym e))
    from false false e is = refl

module _ (file : List ℕ) where
  pub first-refuses : (refusal : Refusal) → refusal_number refusal ≡ first_line_refusal file → refused (refusal_number refusal) ≡ head_of file
  unfolding head_of
  first-refuses refusal e = unless-refused refusal (value_line 7 (drop 48 file) then tested) e

  -- where the names stand, line 2 decides
  module _ (z : 0 ≡ first_line_refusal file) where
    named : (line : Part (List ℕ)) → value_line 7 (drop 48 file) ≡ line → (line then tested) ≡ head_of file
    unfolding head_of
    named line e = ap (λ (l : Part (List ℕ)). l then tested) (sym e) ∙ unless-goes (value_line 7 (drop 48 file) then tested) z refl

    pub line-refuses : (number : ℕ) → refused number ≡ judged false 0 (value_line 7 (drop 48 file)) → refused number ≡ head_of file
    line-refuses number e = named (refused number) (line_refused 0 number _ e)

    -- and where it is a line of seven values, they do
    module _ (over : Bool) (rest : List ℕ) (l : found over rest ≡ judged false 0 (value_line 7 (drop 48 file))) (header : Header) (h : header ≡ header_of (next_values 7 (drop 48 file))) where
      seven : tested (next_values 7 (drop 48 file)) rest ≡ head_of file
      seven = named (found (next_values 7 (drop 48 file)) rest) (line-found-next 7 (drop 48 file) 0 over rest l)

      pub values-refuse : (refusal : Refusal) → refusal_number refusal ≡ header_refusal header → refused (refusal_number refusal) ≡ head_of file
      values-refuse refusal e = unless-refused refusal (found (header_of (next_values 7 (drop 48 file))) rest) (e ∙ ap header_refusal h) ∙ seven

      pub head-found : 0 ≡ header_refusal header → found header rest ≡ head_of file
      head-found e =
          ap (λ (header : Header). found header rest) h
          ∙ unless-goes (found (header_of (next_values 7 (drop 48 file))) rest) (e ∙ ap header_refusal h) refl
          ∙ seven
