-- A whole number of at most 2^53 in double, as an i64.
use Rattle.std.specs.Prelude.{◌≡◌, ◌^◌, ◌≤◌, ◌<◌}
use Rattle.tile_spectrum.specs.Lines.Prelude.{sym, ap, subst, ◌∙◌, List, ℕ, get_or, nat_abs, T, Float, nan, binary64, of_int, to_signed, in_signed, AtMost}
use Rattle.std.proofs.Common.{le_trans}
use Rattle.sequences.specs.TabLaws.{get_d-tab}
use Rattle.floats.specs.Casts.{whole_back}
use Rattle.tile_spectrum.specs.Lines.Doubles.{WholeDouble, WholeLine}

module _ {x : Float} (w : WholeDouble (2 ^ 53) x) where
  pub whole-fits : T (in_signed binary64 63 x)
  whole-fits = subst (λ y. T (in_signed binary64 63 y)) (sym w.is) (whole_back w.number w.most).0

  pub whole_is : to_signed 63 x ≡ w.number
  whole_is = ap (to_signed 63) w.is ∙ (whole_back w.number w.most).1

  pub whole-most : AtMost (2 ^ 53) (to_signed 63 x)
  whole-most = record { most = subst (λ z. nat_abs z ≤ 2 ^ 53) (sym whole_is) w.most }

-- a number of a line
abbrev pub whole_or : {n m : ℕ} {x : List Float} → WholeLine n m x → (l : ℕ) (a : Float) → l < n → WholeDouble m (get_or x l a)
whole_or {n} w l a h = record { number = w.number l; most = w.most l; is = ap (λ x. get_or x l a) w.is ∙ get_d-tab (λ l. of_int binary64 (w.number l)) a n l h }

abbrev pub whole_at : {n m : ℕ} {x : List Float} → WholeLine n m x → (l : ℕ) → l < n → WholeDouble m (get_or x l nan)
whole_at w l h = whole_or w l nan h

-- one of at most m is one of at most k
abbrev pub whole_more : {m k : ℕ} {x : Float} → m ≤ k → WholeDouble m x → WholeDouble k x
whole_more h w = record { number = w.number; most = le_trans w.most h; is = w.is }
