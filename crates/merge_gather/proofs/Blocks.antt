-- A row of the output by blocks, and a block by parts: a word of either is one of the row.
use mathlib.Core.Path.{◌≡◌, refl, ap, ap₂, ◌∙◌, subst, fun_ext}
use Rattle.std.specs.Prelude.{◌+◌, ◌-◌, ◌*◌, ◌/◌, ◌%◌, ◌≤◌, ◌<◌}
use Rattle.merge_gather.specs.Prelude.{List, ℕ, zero, suc, arith, get_or, ℤ, pos, nat_abs, TileSide, Shape, side_of, row_words}
use Rattle.sequences.specs.Write.{written, Writing, write-part}
use Rattle.merge_gather.specs.declared.Span.{Span}
use Rattle.merge_gather.specs.Gather.{Weights, windowed, corrected, start_of, word_over}
use Rattle.merge_gather.specs.Work.{Words, Weighed, row_span, further, Over, word_from}
use Rattle.merge_gather.proofs.Weighing.{words-later, later-room, block_of, word-of-block, column-of, block-first, block-word, row-in-half}

module _ (samples : List ℕ) (work : List ℤ) (p : Span) (count column : ℕ) (sided : TileSide p.side) where
  start-further : (u : ℕ) → start_of (further p column) u ≡ start_of p u + 2 * p.side * (p.side * column)
  start-further zero = refl
  start-further (suc u) = refl

  word-further : (l : ℕ) → l < p.side → (t : ℕ) → word_over work (further p column) l t ≡ word_over work p (p.side * column + l) t
  unfolding word_over
  word-further l h t =
      ap (λ n. get_or work n (pos 0))
      (rw (start-further (t / 2), block-first sided l h, block-word sided l h, block_of sided column l h, word-of-block sided column l h) (omega arith))

  -- the word at place l of a block
  block-word-is : (l : ℕ) → l < p.side → word_from samples work (further p column) count l ≡ word_from samples work p count (p.side * column + l)
  unfolding word_from
  block-word-is l h =
      let there : p.from + p.side * column + l ≡ p.from + (p.side * column + l) = omega arith in
      ap₂ (λ t0 sum. nat_abs (corrected (side_of p.side) t0 sum (count - 1))) (ap (λ n. get_or samples n 0) there)
      (ap₂ (λ k c. windowed (side_of p.side) p.i k c) (column-of sided column l) (fun_ext (word-further l h)))

  -- one more block of a row
  pub block-turn : {d r o : List ℕ} {n : ℕ} {q : Span} → Writing d p.start (word_from samples work p count) n (p.side * column) r → p.side * column + p.side ≤ n
      → q ≡ further p column → o ≡ written r q.start (word_from samples work q count) q.side → Writing d p.start (word_from samples work p count) n (p.side * (column + 1)) o
  block-turn {d} {r} {o} {n} w room e is =
      subst (λ k. Writing d p.start (word_from samples work p count) n k o) (omega arith)
      (write-part w room block-word-is (is ∙ ap (λ q. written r q.start (word_from samples work q count) q.side) e))

-- one more part of a block
pub part-turn : (samples : List ℕ) (work : List ℤ) (p : Span) (count k : ℕ) {d r o : List ℕ} {n : ℕ} → Writing d p.start (word_from samples work p count) n (16 * k) r → 16 * k + 16 ≤ n
    → o ≡ written r (p.start + 16 * k) (λ l. word_from samples work p count (16 * k + l)) 16 → Writing d p.start (word_from samples work p count) n (16 * (k + 1)) o
part-turn samples work p count k {d} {r} {o} {n} w room is =
    subst (λ j. Writing d p.start (word_from samples work p count) n j o) (omega arith) (write-part w room (λ l h. refl) is)

-- the words over a block of a row
pub block-weighed : {work lower upper : List ℤ} (s : Shape) (reference rowParity y top column : ℕ) → TileSide s.side → Over work s.side s.width y
    → Weights s.side (y % (s.side / 2)) lower → Weights s.side (y % (s.side / 2) + s.side / 2) upper → column < s.width / s.side
    → Weighed work (further (row_span s reference rowParity y top) column) lower upper
unfolding row_span row_words
block-weighed {work} s reference rowParity y top column sided over lower upper h =
    record {
      sided = sided;
      lower_later = words over.below (n * (y % (n / 2)) + 2 * n * (n * column)) (omega (arith, room)) (omega arith);
      lower_earlier = words over.below (n * (y % (n / 2)) + 2 * n * (n * column) + n * n) (omega (arith, room)) (omega arith);
      upper_later = words over.above (n * (y % (n / 2) + n / 2) + 2 * n * (n * column)) (omega (arith, room)) (omega arith);
      upper_earlier = words over.above (n * (y % (n / 2) + n / 2) + 2 * n * (n * column) + n * n) (omega (arith, room)) (omega arith);
      lower_weights = lower;
      upper_weights = upper;
      row = row-in-half sided y;
    }
  where
    n : ℕ
    n = s.side

    room : n * (y % (n / 2) + n / 2) + 2 * n * (n * column) + n * n + n ≤ 2 * n * s.width
    room = later-room sided s.width y column h

    words : {at there : ℕ} → Words work at (row_words n s.width) → (k : ℕ) → k + n ≤ 2 * n * s.width → at + k ≡ there → Words work there n
    words w k b e = subst (λ j. Words work j n) e (words-later k n w b)
