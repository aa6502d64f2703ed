-- Two lines side by side that a loop stores by fours: places 2n and 2n + 1 of either half, from the sums over the even and the odd places of both.
use Rattle.std.specs.Prelude.{◌≡◌, ◌∷◌, ◌+◌, ◌-◌, ◌*◌, ◌/◌, ◌%◌, ◌≤◌, ◌<◌}
use Rattle.tile_lines.specs.Back.Prelude.{sym, ap, ◌∙◌, List, [], ℕ, zero, suc, arith, length, get_or, set, Float, nan, tab, joined_by}
use native.Mathlib.Decide.{ℕ_discrete}
use borrow.Author.Tests.{lt-ltb, le-ltb}
use lib.ListN.{length-set}
use lib.Seq.{get_or-set_same, get_or-set_other}
use Rattle.sequences.specs.Grid.{tab-ext, tab-of}

-- place l of two lines, from the sums s, s' of their even places and t, t' of their odd places
abbrev pub by_halves : {A : Type 0} → (plus minus : Float → Float → A) (s s' t t' : List Float) → ℕ → A
by_halves plus minus s s' t t' l = joined_by plus minus (get_or (s ∷ s' ∷ []) (l % 2) []) (get_or (t ∷ t' ∷ []) (l % 2) []) (l / 2)

-- x holds f at the first 2·n places of either half: a loop's invariant
pub record Halved {A : Type 0} (z : A) (f : ℕ → A) (n : ℕ) (x : List A) : Type 0 where
  pub count : n ≤ 8
  pub same : length x ≡ 32
  pub is : (l : ℕ) → l < 32 → l % 16 < 2 * n → get_or x l z ≡ f l

-- a store of f i at i
put : {A : Type 0} (z : A) (f : ℕ → A) (x : List A) (i l : ℕ) (v : A) → i < length x → v ≡ f i → ((l ≡ i → ⊥) → get_or x l z ≡ f l) → get_or (set x i v) l z ≡ f l
put z f x i l v h e rest = go (ℕ_discrete l i)
  where
    go : Dec (l ≡ i) → get_or (set x i v) l z ≡ f l
    go (yes q) = ap (λ j. get_or (set x i v) j z) q ∙ get_or-set_same x i v z h ∙ e ∙ ap f (sym q)
    go (no q) = get_or-set_other x i l v z q ∙ rest q

module _ {A : Type 0} {z : A} {f : ℕ → A} where
  pub halved-start : {x : List A} → length x ≡ 32 → Halved z f 0 x
  halved-start e = record { count = omega arith; same = e; is = λ l h k. absurd (omega arith) }

  pub halved-turn : {n : ℕ} {x : List A} (a b c d : A) → Halved z f n x → n < 8 → a ≡ f (2 * n) → b ≡ f (2 * n + 1) → c ≡ f (2 * n + 16) → d ≡ f (2 * n + 17) → Halved z f (n + 1) (set (set (set (set x (2 * n) a) (2 * n + 1) b) (2 * n + 16) c) (2 * n + 17) d)
  halved-turn {n} {x} a b c d w h p q r s =
      let x1 = set x (2 * n) a in
      let x2 = set x1 (2 * n + 1) b in
      let x3 = set x2 (2 * n + 16) c in
      record {
        count = omega arith;
        same = simp length-set w.same;
        is = λ l g k.
            put z f x3 (2 * n + 17) l d (simp length-set (omega arith)) s
            (λ o. put z f x2 (2 * n + 16) l c (simp length-set (omega arith)) r
            (λ y. put z f x1 (2 * n + 1) l b (simp length-set (omega arith)) q
            (λ u. put z f x (2 * n) l a (omega arith) p (λ v. w.is l g (omega arith)))));
      }

  pub halved-done : {n : ℕ} {x : List A} → Halved z f n x → 8 ≤ n → x ≡ tab 32 f
  halved-done {n} {x} w h =
      tab-of z x ∙ ap (λ m. tab m (λ l. get_or x l z)) w.same ∙ tab-ext 32 (λ l. get_or x l z) f (λ l k. w.is l k (omega arith))

module _ {A : Type 0} (z : A) (plus minus : Float → Float → A) (s s' t t' : List Float) where
  low-at : (p n l : ℕ) → l % 2 ≡ p → l / 2 ≡ n → n < 8 → plus (get_or (get_or (s ∷ s' ∷ []) p []) n nan) (get_or (get_or (t ∷ t' ∷ []) p []) n nan) ≡ by_halves plus minus s s' t t' l
  low-at p n l e g h = rw (e, g, lt-ltb n 8 h)

  high-at : (p n l : ℕ) → l % 2 ≡ p → l / 2 ≡ n + 8 → minus (get_or (get_or (s ∷ s' ∷ []) p []) n nan) (get_or (get_or (t ∷ t' ∷ []) p []) n nan) ≡ by_halves plus minus s s' t t' l
  high-at p n l e g = let m : n + 8 - 8 ≡ n = omega arith in rw (e, g, le-ltb (n + 8) 8 (omega arith), m)

  pub halves-turn : {n : ℕ} {x : List A} {a b c d : A} → Halved z (by_halves plus minus s s' t t') n x → n < 8
      → a ≡ plus (get_or s n nan) (get_or t n nan) → b ≡ plus (get_or s' n nan) (get_or t' n nan) → c ≡ minus (get_or s n nan) (get_or t n nan) → d ≡ minus (get_or s' n nan) (get_or t' n nan)
      → Halved z (by_halves plus minus s s' t t') (n + 1) (set (set (set (set x (2 * n) a) (2 * n + 1) b) (2 * n + 16) c) (2 * n + 17) d)
  halves-turn {n} w h p q r u =
      halved-turn _ _ _ _ w h (p ∙ low-at 0 n (2 * n) (omega arith) (omega arith) h) (q ∙ low-at 1 n (2 * n + 1) (omega arith) (omega arith) h)
      (r ∙ high-at 0 n (2 * n + 16) (omega arith) (omega arith)) (u ∙ high-at 1 n (2 * n + 17) (omega arith) (omega arith))

-- the lines f 0 and f 1
pub halves_are : {A : Type 0} (plus minus : Float → Float → A) (s s' t t' : List Float) (f : ℕ → ℕ → A) → ((n : ℕ) → n < 16 → joined_by plus minus s t n ≡ f 0 n) → ((n : ℕ) → n < 16 → joined_by plus minus s' t' n ≡ f 1 n) → tab 32 (by_halves plus minus s s' t t') ≡ tab 32 (λ l. f (l % 2) (l / 2))
halves_are plus minus s s' t t' f p q = tab-ext 32 _ _ (λ l h. go (l % 2) (l / 2) (omega arith) (omega arith))
  where
    go : (p n : ℕ) → p < 2 → n < 16 → joined_by plus minus (get_or (s ∷ s' ∷ []) p []) (get_or (t ∷ t' ∷ []) p []) n ≡ f p n
    go zero n k h = p n h
    go (suc zero) n k h = q n h
    go (suc (suc p)) n k h = absurd (omega arith)
