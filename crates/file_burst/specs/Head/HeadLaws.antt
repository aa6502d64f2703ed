-- The first two lines are read exactly where the grammar has them with values that pass their tests.
use Rattle.file_burst.specs.Head.Prelude.{refl, sym, ap, ap₂, ◌∙◌, Bool, true, false, false≢true, cond, not, List, [], ℕ, length, get_or, drop, first, found, has_lf, value_line}
use Rattle.std.proofs.Common.{arith, eq-eqb, eqb-true, le-leb}
use Rattle.std.specs.Prelude.{eqb, ◌≡◌, ◌∷◌, ◌++◌, ◌+◌}
use Rattle.std.proofs.lemmas.Bool.{not-false}
use Rattle.sequences.specs.Tab.{tab}
use Rattle.sequences.specs.Grid.{tab-of}
use Rattle.refusals.specs.Numbers as no
use Rattle.refusals.specs.TestLaws.{among, passed, refuse-not}
use Rattle.geometry.specs.declared.Shape.{Shape}
use Rattle.geometry.specs.Shape.{shaped, size_refusal, count_refusal, row_refusal, row_allowed}
use Rattle.geometry.specs.Fits.{Allowed}
use Rattle.geometry.specs.ShapeLaws.{allowed}
use Rattle.file_burst.specs.Lines.Grammar.{ValueLine}
use Rattle.file_burst.specs.Lines.PartLaws.{Sound, unless-sound, then-sound}
use Rattle.file_burst.specs.Lines.LineLaws.{line-sound, line-complete}
use Rattle.file_burst.specs.declared.head.Header.{Header}
use Rattle.file_burst.specs.Head.Names.{names}
use Rattle.file_burst.specs.Head.Grammar.{seven_of}
use Rattle.file_burst.specs.Head.Head.{starts_with, first_line_refusal, header_of, header_refusal, tested, head_of}

pub starts-sound : (text s : List ℕ) → starts_with text s ≡ true → s ≡ text ++ drop (length text) s
unfolding starts_with
starts-sound [] s e = refl
starts-sound (byte ∷ text) [] e = absurd (false≢true e)
starts-sound (byte ∷ text) (b ∷ s) e = from (eqb b byte) refl (starts-sound text s) e
  where
    from : (x : Bool) → eqb b byte ≡ x → (starts_with text s ≡ true → s ≡ text ++ drop (length text) s) → cond x (starts_with text s) false ≡ true → b ∷ s ≡ byte ∷ (text ++ drop (length text) s)
    from true p again e = ap (λ (y : ℕ). y ∷ s) (eqb-true b byte p) ∙ ap (λ (t : List ℕ). byte ∷ t) (again e)
    from false p again e = absurd (false≢true e)

pub starts-complete : (text s : List ℕ) → starts_with text (text ++ s) ≡ true
unfolding starts_with
starts-complete [] s = refl
starts-complete (byte ∷ text) s = rw (eq-eqb byte byte refl) (starts-complete text s)

-- seven values are those of their header
seven : (values : List ℕ) → length values ≡ 7 → seven_of (header_of values) ≡ values
unfolding tab
seven values e = sym (tab-of 0 values ∙ ap (λ (n : ℕ). tab n (λ i. get_or values i 0)) e)

-- and the header of seven values is theirs, with tiles of side 16 and rows that have no spare words
seven-of : (header : Header) → header.shape.side ≡ 16 → header.shape.pitch ≡ header.shape.width → header_of (seven_of header) ≡ header
seven-of header f e =
    let s = header.shape in
    ap₂ (λ m n. record { shape = shaped s.width s.height s.count m n; reference = header.reference; shot = header.shot; read = header.read; strength = header.strength }) (sym f) (sym e)

-- such a shape passes 23, and so is allowed where it passes 1 and 2
pub packed-allowed : (s : Shape) → s.pitch ≡ s.width → size_refusal s ≡ 0 → count_refusal s ≡ 0 → Allowed s
unfolding row_refusal row_allowed
packed-allowed s e size count = allowed s size count (rw (le-leb s.width s.pitch (omega arith), le-leb s.pitch (s.width + 256) (omega arith)))

-- a file that begins with the names and a line of seven values, which are those of the header, with values that are not refused
pub record HeadRead (file : List ℕ) (header : Header) (rest : List ℕ) : Type 0 where
  pub after_names : List ℕ
  pub named : file ≡ names ++ after_names
  pub valued : ValueLine 7 after_names (seven_of header) rest
  pub sixteen : header.shape.side ≡ 16
  pub packed : header.shape.pitch ≡ header.shape.width
  pub passed : header_refusal header ≡ 0

pub head-sound : (file : List ℕ) → Sound (HeadRead file) (head_of file)
unfolding head_of first_line_refusal
head-sound file =
    unless-sound (HeadRead file) (first_line_refusal file) _
    (λ named. then-sound (ValueLine 7 (drop (length names) file)) (HeadRead file) (value_line 7 (drop (length names) file)) tested (line-sound 7 (drop (length names) file))
    (λ values rest l. unless-sound (HeadRead file) (header_refusal (header_of values)) (found (header_of values) rest)
    (λ e. record {
      after_names = drop (length names) file;
      named = starts-sound names file (not-false _ (refuse-not no.first_line (not (starts_with names file)) tt (passed named (search among))));
      valued = rw (seven values l.counted) l;
      sixteen = refl;
      packed = refl;
      passed = e;
    })))

pub head-complete : {file : List ℕ} {header : Header} {rest : List ℕ} → HeadRead file header rest → head_of file ≡ found header rest
unfolding head_of first_line_refusal first has_lf
head-complete {file} {header} {rest} h = ap head_of h.named ∙ rw (starts-complete names h.after_names, line-complete h.valued, seven-of header h.sixteen h.packed, h.passed)
