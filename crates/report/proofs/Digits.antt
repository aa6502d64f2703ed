-- Each number of a short list is below a bound.
use Rattle.std.specs.Prelude.{◌<◌, ◌∷◌}
use Rattle.report.specs.Prelude.{List, [], ℕ, zero, suc, get_or}

pub none-above : (most : ℕ) → 0 < most → (k : ℕ) → get_or [] k 0 < most
none-above most h k = h

pub each-below : (most n : ℕ) (ns : List ℕ) → n < most → ((k : ℕ) → get_or ns k 0 < most) → (k : ℕ) → get_or (n ∷ ns) k 0 < most
each-below most n ns h g zero = h
each-below most n ns h g (suc k) = g k
