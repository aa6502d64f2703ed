-- Sizes that are allowed, and the lengths that follow from them.
use Rattle.file_pgm.specs.Prelude.{refl, sym, ap, ◌∙◌, Bool, true, not, ℕ, arith, T, ltb, refuse, length_refusal, pgm_header, bytes_of}
use Rattle.std.specs.Prelude.{List, [], ◌∷◌, ◌++◌, length, take, drop, ◌≡◌, ◌+◌, ◌*◌, ◌/◌, ◌%◌, ◌≤◌}
use Rattle.std.proofs.Common.{append-nil, mul_assoc, mul-le-mul, length-append, drop_of_length-le, take_at, eq-eqb, ne_eqb}
use Rattle.std.proofs.Math.Nat.{mul-mod_left}
use Rattle.std.proofs.lemmas.Bool.{not-false}
use Rattle.refusals.specs.TestLaws.{refuse-not}
use Rattle.geometry.specs.ShapeLaws.{both, allowed-size}
use Rattle.printing.specs.Put.{put, Printed}
use Rattle.file_pgm.specs.Form.{file_of, file_length, sizes_allowed}
use Rattle.file_pgm.specs.Fits.{Sized}

-- the test of a size
pub sized : {width height : ℕ} → sizes_allowed width height ≡ true → Sized width height
unfolding sizes_allowed
sized {width} {height} e = let sizes = both e in record { wide = allowed-size width sizes.0; high = allowed-size height sizes.1 }

-- what a test that is passed says
pub passes : (number : ℕ) (right : Bool) → T (ltb 0 number) → refuse number (not right) ≡ 0 → right ≡ true
passes number right l e = not-false _ (refuse-not number _ l e)

pub length-passes : (number right long : ℕ) → long ≡ right → length_refusal number right long ≡ 0
unfolding length_refusal
length-passes number right long e = rw (eq-eqb long right e)

pub length-stops : (number right long : ℕ) → (long ≡ right → ⊥) → length_refusal number right long ≡ number
unfolding length_refusal
length-stops number right long h = rw (ne_eqb long right h)

module _ {width height : ℕ} (ok : Sized width height) where
  pub area-most : width * height ≤ 16777216
  area-most = mul-le-mul {n₁ = width} {m₁ = height} {n₂ = 4096} {m₂ = 4096} ok.wide.most ok.high.most

  pub area-least : 4096 ≤ width * height
  area-least = mul-le-mul {n₁ = 64} {m₁ = 64} {n₂ = width} {m₂ = height} ok.wide.least ok.high.least

  -- whole blocks of 64 samples
  pub area-whole : width * height % 64 ≡ 0
  area-whole =
      let blocks : height ≡ height / 64 * 64 = omega (arith, ok.high.whole) in
      ap (λ n. width * n % 64) blocks ∙ ap (λ n. n % 64) (sym (mul_assoc width (height / 64) 64)) ∙ mul-mod_left (width * (height / 64)) 64

pub bytes-long : (samples : List ℕ) → length (bytes_of samples) ≡ 2 * length samples
unfolding bytes_of
bytes-long [] = refl
bytes-long (sample ∷ samples) = omega (arith, bytes-long samples)

-- the length of the file of a frame
pub file-long : (width height : ℕ) (frame : List ℕ) → length frame ≡ width * height → length (file_of width height frame) ≡ file_length width height
unfolding file_of file_length
file-long width height frame e = length-append (pgm_header width height) (bytes_of frame) ∙ ap (λ n. length (pgm_header width height) + n) (bytes-long frame ∙ ap (λ n. 2 * n) e)

-- a text put over a whole buffer is what it then holds
pub printed-whole : {l text m : List ℕ} {next : ℕ} → Printed l 0 text m next → length l ≡ length text → m ≡ text
unfolding put
printed-whole {l} {text} {m} {next} p e =
    p.text ∙ ap (λ x. text ++ x) (drop_of_length-le l {i = 0 + length text} (omega arith)) ∙ append-nil text

-- a text put at the start of a buffer is what it then starts with
pub printed-front : {l text m : List ℕ} {next : ℕ} → Printed l 0 text m next → take next m ≡ text
unfolding put
printed-front {l} {text} {m} {next} p = ap (take next) p.text ∙ take_at text (drop (0 + length text) l) next (omega (arith, p.place))
