-- The halves of both rows, and P of them.
use Rattle.std.specs.Prelude.{◌≡◌, ◌+◌, ◌*◌, ◌/◌, ◌%◌, ◌<◌, ◌+ℤ◌}
use Rattle.range_pair.specs.Prelude.{sym, ap, ap₂, ◌∙◌, false, List, ℕ, arith, lit≤, get_or, ℤ, pos, Float, to_signed, tab, side16, half_sum, WholeRow, column_most}
use native.Mathlib.Nat.{le_trans}
use Rattle.sequences.specs.TabLaws.{get_d-tab}
use Rattle.sequences.specs.Grid.{tab-ext}
use Rattle.floats.specs.Casts.{whole_back}
use Rattle.tile_spectrum.specs.Lines.DoubleCasts.{whole_at}
use Rattle.tile_spectrum.specs.Lines.BackSizes.{half-sum-most}
use Rattle.tile_spectrum.specs.HalvesLaws.{halves_most}
use Rattle.range_pair.specs.Factors.{greatest_of, least_of, half_in}
use Rattle.range_pair.specs.Added.{EndOf, row_plus, half_end, line_end}
use Rattle.range_pair.proofs.Planes.{half-ext}
use Rattle.range_pair.proofs.rounds.add_line as of

-- the halves x of a row h are its own
halves_are : {h : List Float} {x : List ℤ} (w : WholeRow (column_most false) h) → x ≡ tab 32 (λ l. half_sum (λ k. w.number (2 * k + l % 2)) (l / 2)) → (l : ℕ) → l < 32 → get_or x l (pos 0) ≡ half_in h l
unfolding half_in
halves_are w e l i =
    ap (λ x. get_or x l (pos 0)) e ∙ get_d-tab (λ l. half_sum (λ k. w.number (2 * k + l % 2)) (l / 2)) (pos 0) 32 l i
    ∙ half-ext _ _ (λ k j. sym (ap (to_signed 63) (whole_at w (2 * k + l % 2) (omega arith)).is ∙ (whole_back (w.number (2 * k + l % 2)) (le_trans (w.most (2 * k + l % 2)) (lit≤ tt))).1)) (l / 2)

ends-are : (f : EndOf) (s : List ℤ) (v : List ℕ) {h h' : List Float} {x x' : List ℤ} (w : WholeRow (column_most false) h) (w' : WholeRow (column_most false) h') →
    x ≡ tab 32 (λ l. half_sum (λ k. w.number (2 * k + l % 2)) (l / 2)) → x' ≡ tab 32 (λ l. half_sum (λ k. w'.number (2 * k + l % 2)) (l / 2)) →
    row_plus s (half_end x x' v f) ≡ row_plus s (line_end h h' v f)
ends-are f s v w w' e e' = tab-ext 32 _ _ (λ l i. ap₂ (λ a b. get_or s l (pos 0) +ℤ f a b (get_or v (l % 16) 0)) (halves_are w e l i) (halves_are w' e' l i))

whole-halves-of-requires : of.Tie.Need-whole_halves_of-a-requires
whole-halves-of-requires c κs = c.requires.low_in

whole-halves-of-requires-2 : of.Tie.Need-whole_halves_of-b-requires
whole-halves-of-requires-2 c κs = c.requires.high_in

add-row-requires : of.Tie.Need-add_row-requires
add-row-requires c κs =
    let b = c in
    let a = b in
    let s = a in
    let p = s.requires in
    record {
      low_in = halves_most side16 half-sum-most p.low_in (a.whole_halves_of-a.ensures p.low_in);
      high_in = halves_most side16 half-sum-most p.high_in (b.whole_halves_of-b.ensures p.high_in);
      widths_most = p.widths_most;
      greatests = p.greatests;
      leasts = p.leasts;
    }

returns : of.Tie.Need-returns
returns c =
    let b = c in
    let a = b in
    let s = a in
    let p = a.whole_halves_of-a.ensures s.requires.low_in in
    let q = b.whole_halves_of-b.ensures s.requires.high_in in
    record {
      greatest_is = c.add_row.ensures.greatest_is ∙ ends-are greatest_of s.args.greatest.now s.args.widths.now s.requires.low_in s.requires.high_in p q;
      least_is = c.add_row.ensures.least_is ∙ ends-are least_of s.args.least.now s.args.widths.now s.requires.low_in s.requires.high_in p q;
    }

pub add_line_spec : {M : Type 1} → of.Statement.statement M
add_line_spec = of.Tie.close (of.Tie.spec whole-halves-of-requires whole-halves-of-requires-2 add-row-requires returns)
