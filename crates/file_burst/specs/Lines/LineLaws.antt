-- A line of values is read exactly where the grammar has one.
use Rattle.file_burst.specs.Lines.Prelude.{refl, sym, ap, ◌∙◌, subst, Bool, true, false, cond, ℕ, zero, suc, arith, ltb, eqb, length}
use Rattle.std.specs.Prelude.{List, [], ◌∷◌, ◌++◌, ◌≡◌, ◌+◌, ◌-◌, ◌*◌, ◌≤◌}
use Rattle.std.proofs.Common.{append_assoc, add-zero, eq-eqb, ne_eqb, eqb-true, lt-ltb, le-ltb, ltb-true, ltb-false}
use Rattle.std.proofs.lemmas.Bool.{eqb-false}
use Rattle.refusals.specs.Numbers as no
use Rattle.file_burst.specs.Lines.Part.{Part, refused, found, mapped}
use Rattle.file_burst.specs.Lines.PartLaws.{Sound, unless-sound, then-sound}
use Rattle.file_burst.specs.Lines.Line.{Item, last, more, bad, digit_of, past_spaces, after_digits, digits_from, item_of, after_item, values_of, has_lf, line_end, value_line}
use Rattle.file_burst.specs.Lines.Grammar.{Digits, no_digit, digit, number_from, Value, Spaces, space, spaces, Values, value, value_then, ValueLine}

-- a byte that is a digit
record IsDigit (byte : ℕ) : Type 0 where
  low : 48 ≤ byte
  high : byte ≤ 57
  number : digit_of byte ≡ byte - 48

is_digit : (byte : ℕ) → (digit_of byte ≡ 10 → ⊥) → IsDigit byte
is_digit byte other = from (ltb byte 48) (ltb byte 58) refl refl other
  where
    from : (x y : Bool) → ltb byte 48 ≡ x → ltb byte 58 ≡ y → (cond x 10 (cond y (byte - 48) 10) ≡ 10 → ⊥) → IsDigit byte
    from true y p q o = absurd (o refl)
    from false false p q o = absurd (o refl)
    from false true p q o = record { low = ltb-false byte 48 p; high = omega (arith, ltb-true byte 58 q); number = rw (p, q) }

-- soundness

-- behind n digits of the number v, the bytes s go on with digits up to `rest`, which makes the value v'
record Word (n v : ℕ) (s : List ℕ) (v' : ℕ) (rest : List ℕ) : Type 0 where
  text : List ℕ
  is : s ≡ text ++ rest
  digits : Digits text
  some : 1 ≤ n + length text
  few : n + length text ≤ 9
  number : v' ≡ number_from v text

word_none : (n v : ℕ) (s : List ℕ) → (n ≡ 0 → ⊥) → n ≤ 9 → Word n v s v s
unfolding number_from
word_none n v s some few = record { text = []; is = refl; digits = no_digit; some = omega arith; few = omega arith; number = refl }

word_more : {n v v' byte : ℕ} {s rest : List ℕ} → IsDigit byte → Word (n + 1) (v * 10 + digit_of byte) s v' rest → Word n v (byte ∷ s) v' rest
unfolding number_from
word_more {n} {v} {v'} {byte} d w =
    record {
      text = byte ∷ w.text;
      is = ap (λ (x : List ℕ). byte ∷ x) w.is;
      digits = digit d.low d.high w.digits;
      some = omega arith;
      few = omega (arith, w.few);
      number = w.number ∙ ap (λ (x : ℕ). number_from (v * 10 + x) w.text) d.number;
    }

-- spaces in front of `rest`
record Gap (s rest : List ℕ) : Type 0 where
  gap : List ℕ
  is : s ≡ gap ++ rest
  spaced : Spaces gap

past-spaces : (s : List ℕ) → Gap (32 ∷ s) (past_spaces s)
unfolding past_spaces
past-spaces [] = record { gap = 32 ∷ []; is = refl; spaced = space }
past-spaces (byte ∷ rest) = from (eqb byte 32) refl (past-spaces rest)
  where
    from : (x : Bool) → eqb byte 32 ≡ x → Gap (32 ∷ rest) (past_spaces rest) → Gap (32 ∷ byte ∷ rest) (cond x (past_spaces rest) (byte ∷ rest))
    from true p g =
        record {
          gap = 32 ∷ g.gap;
          is = ap (λ (b : ℕ). 32 ∷ b ∷ rest) (eqb-true byte 32 p) ∙ ap (λ (x : List ℕ). 32 ∷ x) g.is;
          spaced = spaces g.spaced;
        }
    from false p g = record { gap = 32 ∷ []; is = refl; spaced = space }

-- what an item tells of the bytes
abbrev SoundItem : (n v : ℕ) → List ℕ → Item → Type 0
SoundItem n v s (last v' rest) = Word n v s v' (10 ∷ rest)
SoundItem n v s (more v' rest) = (t : List ℕ) × Word n v s v' t × Gap t rest
SoundItem n v s bad = Unit

item-more : (n v : ℕ) {byte : ℕ} (s : List ℕ) (item : Item) → IsDigit byte → SoundItem (n + 1) (v * 10 + digit_of byte) s item → SoundItem n v (byte ∷ s) item
item-more n v s (last v' rest) d w = word_more d w
item-more n v s (more v' rest) d (t, w, g) = (t, word_more d w, g)
item-more n v s bad d w = tt

after-sound : (n v byte : ℕ) (rest : List ℕ) → n ≤ 9 → SoundItem n v (byte ∷ rest) (after_digits n v byte rest)
unfolding after_digits
after-sound n v byte rest few = from (eqb n 0) (eqb byte 10) (eqb byte 32) refl refl refl
  where
    from : (x y z : Bool) → eqb n 0 ≡ x → eqb byte 10 ≡ y → eqb byte 32 ≡ z → SoundItem n v (byte ∷ rest) (cond x bad (cond y (last v rest) (cond z (more v (past_spaces rest)) bad)))
    from true y z p q r = tt
    from false true z p q r = subst (λ (b : ℕ). Word n v (byte ∷ rest) v (b ∷ rest)) (eqb-true byte 10 q) (word_none n v (byte ∷ rest) (eqb-false n 0 p) few)
    from false false true p q r =
        (byte ∷ rest, word_none n v (byte ∷ rest) (eqb-false n 0 p) few, subst (λ (b : ℕ). Gap (b ∷ rest) (past_spaces rest)) (sym (eqb-true byte 32 r)) (past-spaces rest))
    from false false false p q r = tt

digits-sound : (n v : ℕ) (s : List ℕ) → n ≤ 9 → SoundItem n v s (digits_from n v s)
unfolding digits_from
digits-sound n v [] few = tt
digits-sound n v (byte ∷ rest) few = from (eqb (digit_of byte) 10) (eqb n 9) refl refl (digits-sound (n + 1) (v * 10 + digit_of byte) rest)
  where
    from : (x y : Bool) → eqb (digit_of byte) 10 ≡ x → eqb n 9 ≡ y → (n + 1 ≤ 9 → SoundItem (n + 1) (v * 10 + digit_of byte) rest (digits_from (n + 1) (v * 10 + digit_of byte) rest))
        → SoundItem n v (byte ∷ rest) (cond x (after_digits n v byte rest) (cond y bad (digits_from (n + 1) (v * 10 + digit_of byte) rest)))
    from true y p q again = after-sound n v byte rest few
    from false true p q again = tt
    from false false p q again = item-more n v rest (digits_from (n + 1) (v * 10 + digit_of byte) rest) (is_digit byte (eqb-false (digit_of byte) 10 p)) (again (room (eqb-false n 9 q)))
      where
        room : (n ≡ 9 → ⊥) → n + 1 ≤ 9
        room o = omega arith

word_value : {s rest : List ℕ} {v : ℕ} (w : Word 0 0 s v rest) → Value w.text v
word_value w = record { digits = w.digits; some = omega (arith, w.some); few = omega (arith, w.few); is = w.number }

line-more : {t s rest : List ℕ} {v : ℕ} (count : ℕ) → Word 0 0 s v t → Gap t rest → (line : Part (List ℕ)) → Sound (ValueLine count rest) line → Sound (ValueLine (suc count) s) (mapped (λ values. v ∷ values) line)
line-more {t} {s} {rest} {v} count w g line l =
    then-sound (ValueLine count rest) (ValueLine (suc count) s) line _ l
    (λ values rest' k. record {
      text = w.text ++ (g.gap ++ k.text);
      is =
          w.is ∙ ap (λ (x : List ℕ). w.text ++ x) (g.is ∙ ap (λ (x : List ℕ). g.gap ++ x) k.is ∙ sym (append_assoc g.gap k.text (10 ∷ rest')))
          ∙ sym (append_assoc w.text (g.gap ++ k.text) (10 ∷ rest'));
      grammar = value_then (word_value w) g.spaced k.grammar;
      counted = ap suc k.counted;
    })

pub malformed : ◌≡◌ {A = ℕ} 14 0 → ⊥
malformed e = omega arith

pub values-sound : (count : ℕ) (s : List ℕ) → Sound (ValueLine count s) (values_of count s)
unfolding values_of
values-sound zero s = malformed
values-sound (suc count) s = from (item_of s) (digits-sound 0 0 s (omega arith)) (λ t. values-sound count t)
  where
    from : (item : Item) → SoundItem 0 0 s item → ((t : List ℕ) → Sound (ValueLine count t) (values_of count t)) → Sound (ValueLine (suc count) s) (after_item count (λ t. values_of count t) item)
    from (last v rest) w again = ends (eqb count 0) refl
      where
        ends : (x : Bool) → eqb count 0 ≡ x → Sound (ValueLine (suc count) s) (cond x (found (v ∷ []) rest) (refused no.wrong_value_line))
        ends true p = record { text = w.text; is = w.is; grammar = value (word_value w); counted = ap suc (sym (eqb-true count 0 p)) }
        ends false p = malformed
    from (more v rest) (t, w, g) again = line-more count w g (values_of count rest) (again rest)
    from bad w again = malformed

-- completeness

digit-number : (byte : ℕ) → 48 ≤ byte → byte ≤ 57 → digit_of byte ≡ byte - 48
digit-number byte low high = rw (le-ltb byte 48 low, lt-ltb byte 58 (omega arith))

digits-read : {text : List ℕ} (n v byte : ℕ) (rest : List ℕ) → Digits text → n + length text ≤ 9 → digit_of byte ≡ 10
    → digits_from n v (text ++ byte ∷ rest) ≡ after_digits (n + length text) (number_from v text) byte rest
unfolding digits_from number_from
digits-read n v byte rest no_digit few e = rw (eq-eqb _ _ e, add-zero n)
digits-read n v byte rest (digit {byte = b} {rest = text} low high ds) few e =
    let d : digit_of b ≡ b - 48 = digit-number b low high in
    let other : digit_of b ≡ 10 → ⊥ = λ q. absurd (omega arith) in
    let room : n ≡ 9 → ⊥ = λ q. absurd (omega arith) in
    rw (ne_eqb (digit_of b) 10 other, ne_eqb n 9 room)
    (digits-read (n + 1) (v * 10 + digit_of b) byte rest ds (omega arith) e
    ∙ ap (λ (k : ℕ). after_digits k (number_from (v * 10 + digit_of b) text) byte rest) (longer (length text))
    ∙ ap (λ (k : ℕ). after_digits (n + suc (length text)) (number_from (v * 10 + k) text) byte rest) d)
  where
    longer : (k : ℕ) → n + 1 + k ≡ n + suc k
    longer k = omega arith

value_read : {text : List ℕ} {v : ℕ} (byte : ℕ) (rest : List ℕ) → Value text v → digit_of byte ≡ 10
    → item_of (text ++ byte ∷ rest) ≡ cond (eqb byte 10) (last v rest) (cond (eqb byte 32) (more v (past_spaces rest)) bad)
unfolding after_digits
value_read {text} {v} byte rest w e =
    let some : 0 + length text ≡ 0 → ⊥ = λ q. absurd (omega (arith, w.some)) in
    digits-read 0 0 byte rest w.digits (omega (arith, w.few)) e
    ∙ (rw (ne_eqb (0 + length text) 0 some, ← w.is))

value-last : {text : List ℕ} {v : ℕ} (rest : List ℕ) → Value text v → item_of (text ++ 10 ∷ rest) ≡ last v rest
value-last rest w = value_read 10 rest w refl

spaces-past : {gap : List ℕ} {byte : ℕ} (rest : List ℕ) → Spaces gap → (byte ≡ 32 → ⊥) → past_spaces (gap ++ byte ∷ rest) ≡ byte ∷ rest
unfolding past_spaces
spaces-past {byte = byte} rest space other = rw (ne_eqb byte 32 other)
spaces-past rest (spaces g) other = spaces-past rest g other

value-more : {text gap : List ℕ} {v byte : ℕ} (rest : List ℕ) → Value text v → Spaces gap → (byte ≡ 32 → ⊥) → item_of (text ++ (gap ++ byte ∷ rest)) ≡ more v (byte ∷ rest)
unfolding past_spaces
value-more {v = v} {byte = byte} rest w space other = value_read 32 (byte ∷ rest) w refl ∙ ap (more v) (rw (ne_eqb byte 32 other))
value-more {v = v} {byte = byte} rest w (spaces {rest = gap} g) other = value_read 32 (gap ++ byte ∷ rest) w refl ∙ ap (more v) (spaces-past rest g other)

-- values begin with a digit
record Begins (text : List ℕ) : Type 0 where
  byte : ℕ
  rest : List ℕ
  is : text ≡ byte ∷ rest
  other : byte ≡ 32 → ⊥

value-begins : {text : List ℕ} {v : ℕ} (tail : List ℕ) → Value text v → Begins (text ++ tail)
value-begins tail w = from w.digits w.some
  where
    from : {text : List ℕ} → Digits text → 1 ≤ length text → Begins (text ++ tail)
    from no_digit some = absurd (omega arith)
    from (digit {byte = byte} {rest = rest} low high ds) some = record { byte = byte; rest = rest ++ tail; is = refl; other = λ e. absurd (omega arith) }

values-begin : {text values : List ℕ} (tail : List ℕ) → Values text values → Begins (text ++ tail)
values-begin tail (value w) = value-begins tail w
values-begin tail (value_then {text = text} {gap = gap} {others = others} w g l) =
    subst Begins (sym (append_assoc text (gap ++ others) tail)) (value-begins (gap ++ others ++ tail) w)

pub values-complete : {text values : List ℕ} (rest : List ℕ) → Values text values → values_of (length values) (text ++ 10 ∷ rest) ≡ found values rest
unfolding values_of
values-complete rest (value w) = rw (value-last rest w)
values-complete rest (value_then {text = text} {gap = gap} {others = others} {values = values} {v = v} w g l) =
    ap (λ (x : List ℕ). after_item (length values) (λ t. values_of (length values) t) (item_of x))
    (append_assoc text (gap ++ others) (10 ∷ rest) ∙ ap (λ (x : List ℕ). text ++ x) (append_assoc gap others (10 ∷ rest)))
    ∙ ap (after_item (length values) (λ t. values_of (length values) t)) (read (values-begin (10 ∷ rest) l))
    ∙ ap (mapped (λ values. v ∷ values)) (values-complete rest l)
  where
    read : Begins (others ++ 10 ∷ rest) → item_of (text ++ (gap ++ (others ++ 10 ∷ rest))) ≡ more v (others ++ 10 ∷ rest)
    read b =
        ap (λ (x : List ℕ). item_of (text ++ (gap ++ x))) b.is ∙ value-more b.rest w g b.other ∙ ap (more v) (sym b.is)

-- a line has its LF
pub line-lf : (text rest : List ℕ) → has_lf (text ++ 10 ∷ rest) ≡ true
unfolding has_lf
line-lf [] rest = refl
line-lf (byte ∷ text) rest = from (eqb byte 10) (line-lf text rest)
  where
    from : (x : Bool) {y : Bool} → y ≡ true → cond x true y ≡ true
    from true e = refl
    from false e = e

pub line-sound : (count : ℕ) (s : List ℕ) → Sound (ValueLine count s) (value_line count s)
line-sound count s = unless-sound (ValueLine count s) (line_end s) (values_of count s) (λ e. values-sound count s)

pub line-complete : {count : ℕ} {s values rest : List ℕ} → ValueLine count s values rest → value_line count s ≡ found values rest
line-complete {count} {s} {values} {rest} l =
    rw (ap has_lf l.is ∙ line-lf l.text rest)
    (ap (values_of count) l.is ∙ ap (λ (k : ℕ). values_of k (l.text ++ 10 ∷ rest)) (sym l.counted) ∙ values-complete rest l.grammar)
