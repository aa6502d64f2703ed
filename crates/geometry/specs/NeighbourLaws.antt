-- The coarse indices by cases are those of document 01's formulas, for every index and each q.
use Rattle.std.specs.Prelude.{◌≡◌, ◌+◌, ◌*◌, ◌/◌, ◌%◌}
use Rattle.algebra.specs.Prelude.{refl, ap, ap₂, ◌∙◌, cond, ℕ, zero, suc, arith, ltb}
use Rattle.std.proofs.Common.{mul-suc, lt-ltb, le-ltb}
use Rattle.geometry.specs.declared.tiles.Quotient.{Quotient}
use Rattle.geometry.specs.declared.tiles.Quotient.TheVariants.{One, Two, Four}
use Rattle.geometry.specs.Tiles.{own2, own4, own, neighbour2, neighbour4, neighbour}

-- q as a number
abbrev pub number : Quotient → ℕ
number One = 1
number Two = 2
number Four = 4

-- "Own coarse index of a: floor((2a+q)/(2q))."
abbrev pub own_formula : (q a : ℕ) → ℕ
own_formula q a = (2 * a + q) / (2 * q)

-- "The neighbour is floor(a/q) if that is below own, else own + 1."
abbrev pub neighbour_formula : (q a : ℕ) → ℕ
neighbour_formula q a = cond (ltb (a / q) (own_formula q a)) (a / q) (own_formula q a + 1)

-- what is counted from the next coarse tile for every q tiles that a tile lies further
further : (q : ℕ) (index : ℕ → ℕ → ℕ) → ((r m : ℕ) → index (q + r) m ≡ index r (m + 1)) → (k r m : ℕ) → index (q * k + r) m ≡ index r (m + k)
further q index h zero r m = ap₂ index (omega arith) (omega arith)
further q index h (suc k) r m = ap (λ p. index p m) (omega (arith, mul-suc q k)) ∙ h (q * k + r) m ∙ further q index h k r (m + 1) ∙ ap (index r) (omega arith)

-- What counts from the next coarse tile where there are q fine tiles more goes by the remainder of a
module _ (index : (past m : ℕ) → ℕ) (a : ℕ) where
  by_2 : ((r m : ℕ) → index (suc (suc r)) m ≡ index r (m + 1)) → index a 0 ≡ index (a % 2) (a / 2)
  by_2 again = ap (λ p. index p 0) (omega arith) ∙ further 2 index (λ r m. ap (λ p. index p m) (omega arith) ∙ again r m) (a / 2) (a % 2) 0 ∙ ap (index (a % 2)) (omega arith)

  by_4 : ((r m : ℕ) → index (suc (suc (suc (suc r)))) m ≡ index r (m + 1)) → index a 0 ≡ index (a % 4) (a / 4)
  by_4 again = ap (λ p. index p 0) (omega arith) ∙ further 4 index (λ r m. ap (λ p. index p m) (omega arith) ∙ again r m) (a / 4) (a % 4) 0 ∙ ap (index (a % 4)) (omega arith)

module _ (a : ℕ) where
  pub own-by-2 : own2 a 0 ≡ own2 (a % 2) (a / 2)
  unfolding own2
  own-by-2 = by_2 own2 a (λ r m. refl)

  pub neighbour-by-2 : neighbour2 a 0 ≡ neighbour2 (a % 2) (a / 2)
  unfolding neighbour2
  neighbour-by-2 = by_2 neighbour2 a (λ r m. refl)

  pub own-by-4 : own4 a 0 ≡ own4 (a % 4) (a / 4)
  unfolding own4
  own-by-4 = by_4 own4 a (λ r m. refl)

  pub neighbour-by-4 : neighbour4 a 0 ≡ neighbour4 (a % 4) (a / 4)
  unfolding neighbour4
  neighbour-by-4 = by_4 neighbour4 a (λ r m. refl)

  own-2 : (r : ℕ) → r ≡ a % 2 → own2 r (a / 2) ≡ own_formula 2 a
  unfolding own2
  own-2 zero e = omega arith
  own-2 (suc zero) e = omega arith
  own-2 (suc (suc r)) e = absurd (omega arith)

  neighbour-2 : (r : ℕ) → r ≡ a % 2 → neighbour2 r (a / 2) ≡ neighbour_formula 2 a
  unfolding neighbour2
  neighbour-2 zero e = rw (le-ltb (a / 2) (own_formula 2 a) (omega arith)) (omega arith)
  neighbour-2 (suc zero) e = rw (lt-ltb (a / 2) (own_formula 2 a) (omega arith))
  neighbour-2 (suc (suc r)) e = absurd (omega arith)

  own-4 : (r : ℕ) → r ≡ a % 4 → own4 r (a / 4) ≡ own_formula 4 a
  unfolding own4
  own-4 zero e = omega arith
  own-4 (suc zero) e = omega arith
  own-4 (suc (suc zero)) e = omega arith
  own-4 (suc (suc (suc zero))) e = omega arith
  own-4 (suc (suc (suc (suc r)))) e = absurd (omega arith)

  neighbour-4 : (r : ℕ) → r ≡ a % 4 → neighbour4 r (a / 4) ≡ neighbour_formula 4 a
  unfolding neighbour4
  neighbour-4 zero e = rw (le-ltb (a / 4) (own_formula 4 a) (omega arith)) (omega arith)
  neighbour-4 (suc zero) e = rw (le-ltb (a / 4) (own_formula 4 a) (omega arith)) (omega arith)
  neighbour-4 (suc (suc zero)) e = rw (lt-ltb (a / 4) (own_formula 4 a) (omega arith))
  neighbour-4 (suc (suc (suc zero))) e = rw (lt-ltb (a / 4) (own_formula 4 a) (omega arith))
  neighbour-4 (suc (suc (suc (suc r)))) e = absurd (omega arith)

-- every index is the same
pub same-own : (q : Quotient) (a : ℕ) → own q a ≡ own_formula (number q) a
unfolding own
same-own One a = omega arith
same-own Two a = own-by-2 a ∙ own-2 a (a % 2) refl
same-own Four a = own-by-4 a ∙ own-4 a (a % 4) refl

pub same-neighbour : (q : Quotient) (a : ℕ) → neighbour q a ≡ neighbour_formula (number q) a
unfolding neighbour
same-neighbour One a = rw (le-ltb (a / 1) (own_formula 1 a) (omega arith)) (omega arith)
same-neighbour Two a = neighbour-by-2 a ∙ neighbour-2 a (a % 2) refl
same-neighbour Four a = neighbour-by-4 a ∙ neighbour-4 a (a % 4) refl
