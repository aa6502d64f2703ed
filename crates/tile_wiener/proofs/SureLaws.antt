-- Loops that replace quads one after the other, and whether their quotients are certain.
use Rattle.std.specs.Prelude.{◌≡◌, ◌∷◌, ◌+◌, ◌*◌, ◌/◌, ◌≤◌, ◌<◌}
use Rattle.tile_wiener.specs.Prelude.{refl, sym, subst, Bool, true, false, List, [], ℕ, arith, ltb, get_or, Float, nan, cell, number_of}
use borrow.Author.Tests.{ltb-true, ltb-false}
use Rattle.tile_quad.specs.Lanes.{quad_at_of, place_of, WithQuadOf, LanesOf}
use Rattle.tile_quad.specs.LaneLaws.{same_row, same-lane, lanes_start, lanes-turn, lanes-join}
use Rattle.tile_wiener.specs.DoubleQuads.{new_quad_by, SureQuadBy, SureQuadsOf, ShrunkOf}

-- quad (u, l) is certain, at V and W of its lane
abbrev SureAt : (h bits : ℕ) (v w : List Float) (u l : ℕ) → List (List Float) → Type 0
SureAt h bits v w u l b = SureQuadBy bits (get_or v l nan) (get_or w l nan) (l / 2) u (quad_at_of h (cell nan b) u l)

pub sure-one : {h bits : ℕ} {v w : List Float} {u l n : ℕ} {b : List (List Float)} → l < 2 * h → place_of h u l ≡ n → SureAt h bits v w u l b → SureQuadsOf h bits v w n (n + 1) b
sure-one {h} {bits} {v} {w} {u} {l} {n} {b} k o p = record { quad = one }
  where
    one : (x y : ℕ) → x < h → y < 2 * h → n ≤ place_of h x y → place_of h x y < n + 1 → SureAt h bits v w x y b
    one x y i j a c =
        let d : place_of h u l ≡ place_of h x y = omega arith in
        rw (sym (same_row h u l x y k j d), sym (same-lane h u l x y k j d)) p

module _ {h bits : ℕ} {Pair : List (List Float) → Type 0} {v w : List Float} where
  -- quads from m on are replaced, and those from n on are as they were
  pub sure-join : {m n o : ℕ} {b r : List (List Float)} → LanesOf h Pair (new_quad_by bits v w) m n b r → SureQuadsOf h bits v w m n b → SureQuadsOf h bits v w n o r → SureQuadsOf h bits v w m o b
  sure-join {m} {n} {o} {b} {r} z p q = record { quad = λ u l i k a c. go u l i k a c (ltb (place_of h u l) n) refl }
    where
      go : (u l : ℕ) → u < h → l < 2 * h → m ≤ place_of h u l → place_of h u l < o → (c : Bool) → ltb (place_of h u l) n ≡ c → SureAt h bits v w u l b
      go u l i k a c true e = p.quad u l i k a (ltb-true (place_of h u l) n e)
      go u l i k a c false e =
          let d : n ≤ place_of h u l = ltb-false (place_of h u l) n e in
          subst (SureQuadBy bits (get_or v l nan) (get_or w l nan) (l / 2) u) (z.rest u l i k (λ a c. omega arith)) (q.quad u l i k d c)

  pub shrunk-start : {s : Bool} (n : ℕ) {b : List (List Float)} → Pair b → ShrunkOf h bits Pair s v w n n b b
  shrunk-start n p = record { new = lanes_start n p; sure = λ e. record { quad = λ u l i k a c. absurd (omega arith) } }

  pub shrunk-at : {s : Bool} {m n o : ℕ} {b r : List (List Float)} → ShrunkOf h bits Pair s v w m n b r → n ≡ o → ShrunkOf h bits Pair s v w m o b r
  shrunk-at {s} {m} {b = b} {r} p e = subst (λ n. ShrunkOf h bits Pair s v w m n b r) e p

  pub shrunk-join : {s t z : Bool} {m n o : ℕ} {b r x : List (List Float)} → m ≤ n → n ≤ o → ShrunkOf h bits Pair s v w m n b r → ShrunkOf h bits Pair t v w n o r x → (z ≡ true → (s ≡ true) × (t ≡ true)) → ShrunkOf h bits Pair z v w m o b x
  shrunk-join i j p q f = record { new = lanes-join i j p.new q.new; sure = λ e. sure-join p.new (p.sure (f e).0) (q.sure (f e).1) }

  pub shrunk-turn : {s z : Bool} {u l m n : ℕ} {q : List Float} {b r x : List (List Float)} → ShrunkOf h bits Pair s v w m n b r → m ≤ n → l < 2 * h → place_of h u l ≡ n → WithQuadOf h Pair u l q r x → number_of q 0 ∷ number_of q 1 ∷ number_of q 2 ∷ number_of q 3 ∷ [] ≡ new_quad_by bits v w u l (quad_at_of h (cell nan r) u l) → (z ≡ true → (s ≡ true) × SureAt h bits v w u l r) → ShrunkOf h bits Pair z v w m (n + 1) b x
  shrunk-turn p i k o y e f =
      record { new = lanes-turn p.new i k o y e; sure = λ a. sure-join p.new (p.sure (f a).0) (sure-one k o (f a).1) }
