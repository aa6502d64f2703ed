-- The offset that is chosen is the least by residual, then by the order of ties; and the bounds of what is found.
use Rattle.std.specs.Prelude.{◌≡◌, ◌+◌, ◌≤◌, ◌<◌}
use Rattle.align_search.specs.Prelude.{refl, sym, subst, ◌∙◌, Bool, true, false, ℕ, zero, suc, arith, ltb, first_by, first_min, Tile, Vector, Within, Pair, residual}
use borrow.Author.Tests.{ltb-true, lt-ltb, le-ltb}
use Rattle.align_search.specs.Vectors.{◌plus◌}
use Rattle.align_search.specs.VectorLaws.{plus-within}
use Rattle.align_search.specs.Offsets.{offset}
use Rattle.align_search.specs.Ties.{earlier}
use Rattle.align_search.specs.OffsetLaws.{offset-order, offset_at, offset-within}
use Rattle.align_search.specs.Search.{tried, chosen, best_vector, three, guessed}
use Rattle.sequences.specs.LeastLaws.{first_min-most, least, first}

module _ (squared : Bool) (p : Pair) (t : Tile) (guess : Vector) where
  chosen-most : chosen squared p t guess < 81
  unfolding chosen
  chosen-most = omega (arith, first_min-most (tried squared p t guess) 80)

  -- no offset of −4..4 has a smaller residual
  pub none-smaller : (o : Vector) → Within 4 o → residual squared p t (best_vector squared p t guess) ≤ residual squared p t (guess plus o)
  unfolding tried chosen best_vector
  none-smaller o w =
      let (k, h, e) = offset_at o w in
      subst (λ o. residual squared p t (best_vector squared p t guess) ≤ residual squared p t (guess plus o)) e
      (least (tried squared p t guess) 80 k (omega arith))

  -- and none of equal residual comes earlier
  pub none-earlier : (o : Vector) → Within 4 o → residual squared p t (guess plus o) ≡ residual squared p t (best_vector squared p t guess) → earlier o (offset (chosen squared p t guess)) ≡ false
  unfolding tried chosen best_vector
  none-earlier o w same =
      let (k, h, e) = offset_at o w in
      subst (λ o. residual squared p t (guess plus o) ≡ residual squared p t (best_vector squared p t guess) → earlier o (offset (chosen squared p t guess)) ≡ false) e
      (λ q. sym (offset-order k (chosen squared p t guess) h chosen-most) ∙ by k (ltb k (chosen squared p t guess)) refl q) same
    where
      by : (k : ℕ) (b : Bool) → ltb k (chosen squared p t guess) ≡ b → residual squared p t (guess plus offset k) ≡ residual squared p t (best_vector squared p t guess) → b ≡ false
      by k true e q = absurd (omega (arith, first (tried squared p t guess) 80 k (ltb-true k (chosen squared p t guess) e)))
      by k false e q = refl

  -- the parts of what is found are at most 4 more than those of the guess
  pub found_within : (b : ℕ) → Within b guess → Within (b + 4) (best_vector squared p t guess)
  unfolding best_vector
  found_within b w = plus-within w (offset-within (chosen squared p t guess) chosen-most)

-- which of three candidates is the guess
module _ (p : Pair) (t : Tile) (own sideways vertically : Vector) (x y z : ℕ) (ex : x ≡ residual false p t own) (ey : y ≡ residual false p t sideways) (ez : z ≡ residual false p t vertically) where
  pub guess-own : x ≤ y → x ≤ z → own ≡ guessed p t own sideways vertically
  unfolding guessed first_by three
  guess-own h k = rw (← ex, ← ey, le-ltb y x h, ← ex, ← ez, le-ltb z x k)

  pub guess-sideways : y < x → y ≤ z → sideways ≡ guessed p t own sideways vertically
  unfolding guessed first_by three
  guess-sideways h k = rw (← ex, ← ey, lt-ltb y x h, ← ey, ← ez, le-ltb z y k)

  pub guess-third : x ≤ y → z < x → vertically ≡ guessed p t own sideways vertically
  unfolding guessed first_by three
  guess-third h k = rw (← ex, ← ey, le-ltb y x h, ← ex, ← ez, lt-ltb z x k)

  pub guess-last : y < x → z < y → vertically ≡ guessed p t own sideways vertically
  unfolding guessed first_by three
  guess-last h k = rw (← ex, ← ey, lt-ltb y x h, ← ey, ← ez, lt-ltb z y k)

-- and what bounds the three bounds it
pub guess-within : (p : Pair) (t : Tile) (own sideways vertically : Vector) (b : ℕ) → Within b own → Within b sideways → Within b vertically → Within b (guessed p t own sideways vertically)
unfolding guessed three
guess-within p t own sideways vertically b h k l = of (first_min (λ k. residual false p t (three own sideways vertically k)) 2)
  where
    of : (n : ℕ) → Within b (three own sideways vertically n)
    of zero = h
    of (suc zero) = k
    of (suc (suc n)) = l
