-- 2·h rows that are set two at a time, y and h + y, over any h. What they are set to may depend on a supposition H.
use Rattle.tile_spectrum.specs.Prelude.{refl, sym, ap, ◌∙◌, Bool, true, false, List, [], ℕ, arith, ltb, get_or, tab}
use Rattle.std.specs.Prelude.{length, set, ◌≡◌, ◌+◌, ◌-◌, ◌*◌, ◌≤◌, ◌<◌}
use Rattle.std.proofs.Common.{length-set, ext_get_or, get_or-set_same, get_or-set_other, below_more, ltb-true, ltb-false}
use Rattle.sequences.specs.TabLaws.{length-tab, get_d-tab}

-- rows k and h + k of t are a and b
abbrev pub Both : {A : Type 0} → (h : ℕ) (t : List (List A)) (k : ℕ) (a b : List A) → Type 0
Both h t k a b = (get_or t k [] ≡ a) × (get_or t (h + k) [] ≡ b)

-- rows k and h + k of t hold f for k below y, and the others are t₀'s: a loop's invariant
pub record RowsSet (h : ℕ) {A : Type 0} {H : Type 0} (f : H → ℕ → List A) (y : ℕ) (t₀ t : List (List A)) : Type 0 where
  pub count : y ≤ h
  pub long : length t ≡ 2 * h
  pub is : (w : H) (k : ℕ) → k < y → Both h t k (f w k) (f w (h + k))
  pub rest : (k : ℕ) → y ≤ k → k < h → Both h t k (get_or t₀ k []) (get_or t₀ (h + k) [])

none : (l : ℕ) → l < 0 → ⊥
none l h = omega arith

module _ {h : ℕ} {A : Type 0} {H : Type 0} {f : H → ℕ → List A} {t₀ : List (List A)} where
  pub rows_start : length t₀ ≡ 2 * h → RowsSet h f 0 t₀ t₀
  rows_start e = record { count = omega arith; long = e; is = λ w k i. absurd (none k i); rest = λ k _ _. (refl, refl) }

  -- the rows that are not set yet
  pub rows-first : {y : ℕ} {t : List (List A)} → RowsSet h f y t₀ t → y < h → get_or t y [] ≡ get_or t₀ y []
  rows-first {y} s i = (s.rest y (omega arith) i).0

  pub rows-second : {y : ℕ} {t : List (List A)} → RowsSet h f y t₀ t → y < h → (a : List A) → get_or (set t y a) (h + y) [] ≡ get_or t₀ (h + y) []
  rows-second {y} {t} s i a = get_or-set_other t y (h + y) a [] (λ e. omega arith) ∙ (s.rest y (omega arith) i).1

  -- one turn
  pub rows-turn : {y : ℕ} {t : List (List A)} {a b : List A} → RowsSet h f y t₀ t → y < h → ((w : H) → a ≡ f w y) → ((w : H) → b ≡ f w (h + y)) → RowsSet h f (y + 1) t₀ (set (set t y a) (h + y) b)
  rows-turn {y} {t} {a} {b} s j p q = record { count = omega arith; long = long; is = turned; rest = kept }
    where
      r : List (List A)
      r = set (set t y a) (h + y) b

      long : length r ≡ 2 * h
      long = length-set (set t y a) (h + y) b ∙ length-set t y a ∙ s.long

      same : (k : ℕ) → (k ≡ y → ⊥) → (k ≡ h + y → ⊥) → get_or r k [] ≡ get_or t k []
      same k m n = get_or-set_other (set t y a) (h + y) k b [] n ∙ get_or-set_other t y k a [] m

      others : (k : ℕ) → k < h → (k ≡ y → ⊥) → Both h r k (get_or t k []) (get_or t (h + k) [])
      others k l o = (same k o (λ e. omega arith), same (h + k) (λ e. omega arith) (λ e. o (omega arith)))

      new : (w : H) → Both h r y (f w y) (f w (h + y))
      new w = (
        get_or-set_other (set t y a) (h + y) y b [] (λ e. omega arith) ∙ get_or-set_same t y a [] (omega (arith, s.long)) ∙ p w,
        get_or-set_same (set t y a) (h + y) b [] (omega (arith, length-set t y a, s.long)) ∙ q w,
      )

      turned : (w : H) (k : ℕ) → k < y + 1 → Both h r k (f w k) (f w (h + k))
      turned w k l =
          below_more (λ k. Both h r k (f w k) (f w (h + k))) y
          (λ k m. let o = others k (omega arith) (λ e. omega arith) in let i = s.is w k m in (o.0 ∙ i.0, o.1 ∙ i.1)) (new w) k l

      kept : (k : ℕ) → y + 1 ≤ k → k < h → Both h r k (get_or t₀ k []) (get_or t₀ (h + k) [])
      kept k l m = let o = others k m (λ e. omega arith) in let i = s.rest k (omega arith) m in (o.0 ∙ i.0, o.1 ∙ i.1)

  pub rows-done : {y : ℕ} {t : List (List A)} → RowsSet h f y t₀ t → h ≤ y → (w : H) → t ≡ tab (2 * h) (f w)
  rows-done {y} {t} s j w =
      ext_get_or [] t (tab (2 * h) (f w)) (s.long ∙ sym (length-tab (f w) (2 * h)))
      (λ i l. let m : i < 2 * h = omega (arith, s.long) in row i m ∙ sym (get_d-tab (f w) [] (2 * h) i m))
    where
      row : (i : ℕ) → i < 2 * h → get_or t i [] ≡ f w i
      row i m = go (ltb i h) (ltb-true i h) (ltb-false i h)
        where
          go : (c : Bool) → (c ≡ true → i < h) → (c ≡ false → h ≤ i) → get_or t i [] ≡ f w i
          go true p q = let l = p refl in (s.is w i (omega arith)).0
          go false p q =
              let l = q refl in
              let e : h + (i - h) ≡ i = omega arith in
              ap (λ k. get_or t k []) (sym e) ∙ (s.is w (i - h) (omega arith)).1 ∙ ap (f w) e
