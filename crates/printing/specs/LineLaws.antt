-- A line value by value and a frame row by row, and how long they are at most.
use Rattle.printing.specs.Prelude.{List, ℕ, suc, arith}
use Rattle.std.proofs.Common.{suc-mul, add-one, length-append, length-drop, drop-cons, drop-drop}
use Rattle.std.proofs.Common.{inl, inr, length-take}
use Rattle.std.proofs.lemmas.Bool.{cases_lt}
use Rattle.std.proofs.lemmas.List.{get_or-drop, get_or-take}
use Rattle.std.proofs.Math.ListN.{get_or-eq_default}
use Rattle.std.proofs.Math.Nat.{mul-suc, mul-add, mul-le-mul_left}
use Rattle.std.specs.Prelude.{[], ◌∷◌, zero, length, get_or, take, drop, ◌≡◌, ◌++◌, ◌+◌, ◌-◌, ◌*◌, ◌^◌, ◌≤◌, ◌<◌}
use Rattle.printing.specs.DecimalLaws.{decimal-length}
use Rattle.printing.specs.Lines.{value, number_line, sample_rows, refusal}

pub value-length : (m n left : ℕ) → n < 10 ^ suc m → length (value n left) ≤ suc m + 1
unfolding value
value-length m n left h = rw length-append (omega (arith, decimal-length m n h))

-- what is left of a line from value k on
pub line-next : (ns : List ℕ) (k : ℕ) → k < length ns → number_line (drop k ns) ≡ value (get_or ns k 0) (length ns - (k + 1)) ++ number_line (drop (k + 1) ns)
unfolding number_line
line-next ns k h = rw (add-one, drop-cons ns k 0, length-drop)

-- what is left of a frame from a row on
pub rows_next : (width height : ℕ) (samples : List ℕ) (row : ℕ) → row < height →
    sample_rows width (height - row) (drop (row * width) samples)
    ≡ number_line (take width (drop (row * width) samples)) ++ sample_rows width (height - (row + 1)) (drop ((row + 1) * width) samples)
unfolding sample_rows
rows_next width height samples row h =
    let e : height - row ≡ suc (height - (row + 1)) = omega arith in
    rw (e, drop-drop, add-one, suc-mul)

front : (m width : ℕ) (samples : List ℕ) → ((k : ℕ) → get_or samples k 0 < 10 ^ suc m) → (k : ℕ) → get_or (take width samples) k 0 < 10 ^ suc m
front m width samples h k = elim (cases_lt k width) [
  | inl inside ↦ rw (get_or-take width samples k 0 inside) (h k)
  | inr past ↦ let some = h k in rw (get_or-eq_default (take width samples) 0 {n = k} (omega (arith, length-take width samples))) (omega arith)
]

-- a line of values of at most m + 1 digits each
pub line-length : (m : ℕ) (ns : List ℕ) → ((k : ℕ) → get_or ns k 0 < 10 ^ suc m) → length (number_line ns) ≤ (m + 2) * length ns
unfolding number_line
line-length m [] h = omega arith
line-length m (n ∷ ns) h =
    let first = value-length m n (length ns) (h 0) in
    let rest = line-length m ns (λ k. h (suc k)) in
    rw (length-append, mul-suc) (omega arith)

-- the rows of a frame, likewise
pub rows-length : (m width height : ℕ) (samples : List ℕ) → ((k : ℕ) → get_or samples k 0 < 10 ^ suc m) → length (sample_rows width height samples) ≤ (m + 2) * (height * width)
unfolding sample_rows
rows-length m width zero samples h = omega arith
rows-length m width (suc height) samples h =
    let row = line-length m (take width samples) (front m width samples h) in
    let short : length (take width samples) ≤ width = omega (arith, length-take width samples) in
    let rest = rows-length m width height (drop width samples) (λ k. rw get_or-drop (h (width + k))) in
    let most = mul-le-mul_left (m + 2) short in
    rw (length-append, suc-mul, mul-add) (omega arith)

pub refusal-length : (n : ℕ) → n < 10 ^ 20 → length (refusal n) ≤ 29
unfolding refusal
refusal-length n h = rw (length-append, length-append) (omega (arith, decimal-length 19 n h))
