-- Bands of a frame: their words, and that bands which cover the frame are the frame.
use Rattle.std.specs.Prelude.{◌≡◌, ◌∷◌, ◌++◌, ◌+◌, ◌*◌, ◌/◌, ◌%◌, ◌≤◌, ◌<◌}
use Rattle.stacker.specs.Prelude.{sym, ap, ◌∙◌, List, [], ℕ, arith, length, get_or, take, drop, tab, Scene, word_at, merged}
use Rattle.std.proofs.Common.{zero-mul, add-mul, mul_comm, mul-le-mul_right, length-take, length-drop, ext_get_or, take_all, take-add, drop-drop}
use Rattle.std.proofs.Math.Nat.{mul-add-div_right, mul-add-mod_self_right}
use Rattle.std.proofs.Math.Seq.{get_or-take, get_or-drop}
use Rattle.sequences.specs.TabLaws.{length-tab, get_d-tab}
use Rattle.stacker.specs.Bands.{band}
use Rattle.stacker.specs.BandsJoined.{bands_from, rows_together}

-- a band of so many rows lies in the frame
pub band-room : (width height top rows : ℕ) → top + rows ≤ height → top * width + rows * width ≤ width * height
band-room width height top rows h = omega (arith, add-mul top rows width, mul-le-mul_right {m = top + rows} {n = height} width h, mul_comm height width)

-- what holds of every word of a frame, by its row and column, holds of a band's
module _ (P : (word row column : ℕ) → Type 0) (width height : ℕ) (frame : List ℕ) (all : (k : ℕ) → k < width * height → P (get_or frame k 0) (k / width) (k % width)) where
  pub band-every : 0 < width → (top rows : ℕ) → top + rows ≤ height → (k : ℕ) → k < rows * width → P (get_or (band width top rows frame) k 0) (top + k / width) (k % width)
  unfolding band
  band-every wide top rows inside k h =
      let at = all (top * width + k) (omega (arith, band-room width height top rows inside)) in
      let word : get_or (take (rows * width) (drop (top * width) frame)) k 0 ≡ get_or frame (top * width + k) 0 = get_or-take (rows * width) (drop (top * width) frame) k 0 h ∙ get_or-drop (top * width) frame k 0 in
      rw (word, ← mul-add-div_right wide top k, ← mul-add-mod_self_right top width k) at

-- a part of a table is a table
pub tab-part : (f : ℕ → ℕ) (n m l : ℕ) → m + n ≤ l → take n (drop m (tab l f)) ≡ tab n (λ k. f (m + k))
tab-part f n m l h =
    ext_get_or 0 (take n (drop m (tab l f))) (tab n g) (long ∙ sym (length-tab g n))
    (λ k i. let j : k < n = omega (arith, long) in
    get_or-take n (drop m (tab l f)) k 0 j ∙ get_or-drop m (tab l f) k 0 ∙ get_d-tab f 0 l (m + k) (omega arith) ∙ sym (get_d-tab g 0 n k j))
  where
    g : ℕ → ℕ
    g k = f (m + k)

    long : length (take n (drop m (tab l f))) ≡ n
    long = omega (arith, length-take n (drop m (tab l f)), length-drop m (tab l f), length-tab f l)

bands-band : (width : ℕ) (frame : List ℕ) (counts : List ℕ) (top : ℕ) → bands_from width top counts frame ≡ band width top (rows_together counts) frame
unfolding band bands_from rows_together
bands-band width frame [] top = sym (ap (λ n. take n (drop (top * width) frame)) (zero-mul width))
bands-band width frame (rows ∷ counts) top =
    let rest = drop (top * width) frame in
    let below : drop ((top + rows) * width) frame ≡ drop (rows * width) rest = ap (λ n. drop n frame) (add-mul top rows width) ∙ sym (drop-drop (rows * width) (top * width) frame) in
    ap (λ l. take (rows * width) rest ++ l) (bands-band width frame counts (top + rows) ∙ ap (take (rows_together counts * width)) below)
    ∙ sym (take-add (rows * width) (rows_together counts * width) rest)
    ∙ ap (λ n. take n rest) (sym (add-mul rows (rows_together counts) width))

-- all rows
pub band-all : (s : Scene) → band s.width 0 s.height (merged s) ≡ merged s
unfolding band merged
band-all s = ap (take (s.height * s.width)) (ap (λ n. drop n (tab (s.width * s.height) (word_at s))) (zero-mul s.width)) ∙ take_all (s.height * s.width) (tab (s.width * s.height) (word_at s)) (omega (arith, length-tab (word_at s) (s.width * s.height), mul_comm s.height s.width))

-- Bands that cover the frame, joined, are the frame that merge gives.
pub bands-whole : (s : Scene) (counts : List ℕ) → rows_together counts ≡ s.height → bands_from s.width 0 counts (merged s) ≡ merged s
bands-whole s counts e = bands-band s.width (merged s) counts 0 ∙ ap (λ n. band s.width 0 n (merged s)) e ∙ band-all s
