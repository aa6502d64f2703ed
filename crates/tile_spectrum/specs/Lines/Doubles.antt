-- Lines of whole numbers in double.
use Rattle.std.specs.Prelude.{◌≡◌, ◌-◌, ◌/◌, ◌%◌, ◌≤◌}
use Rattle.tile_spectrum.specs.Lines.Prelude.{cond, List, ℕ, ltb, get_or, ℤ, nat_abs, Float, nan, binary64, of_int, add, sub, tab, Side}
use Rattle.tile_spectrum.specs.Lines.Halfcomplex.{half_sum_of}

-- z 0, .., z (n − 1)
abbrev pub double_line : ℕ → (ℕ → ℤ) → List Float
double_line n z = tab n (λ i. of_int binary64 (z i))

-- what holds where x holds n whole numbers of at most m
abbrev pub From : (m n : ℕ) → List Float → ((ℕ → ℤ) → Type 0) → Type 0
From m n x holds = (z : ℕ → ℤ) → ((k : ℕ) → nat_abs (z k) ≤ m) → x ≡ double_line n z → holds z

-- x holds half of the sums back of two rows side by side, where h holds rows of n numbers in all, each of at most m
abbrev pub HalvesOf : Side → (m n : ℕ) → (h x : List Float) → Type 0
HalvesOf s m n h x = (g : ℕ → ℕ → ℤ) → ((p k : ℕ) → nat_abs (g p k) ≤ m) → h ≡ double_line n (λ l. g (l % 2) (l / 2)) → x ≡ double_line n (λ l. half_sum_of s (g (l % 2)) (l / 2))

-- a whole number of at most m in double
pub record WholeDouble (m : ℕ) (x : Float) : Type 0 where
  pub number : ℤ
  pub most : nat_abs number ≤ m
  pub is : x ≡ of_int binary64 number

-- a line of n of them
pub record WholeLine (n m : ℕ) (x : List Float) : Type 0 where
  pub number : ℕ → ℤ
  pub most : (l : ℕ) → nat_abs (number l) ≤ m
  pub is : x ≡ double_line n number

-- a row of thirty-two, two lines of sixteen
abbrev pub WholeRow : (m : ℕ) → List Float → Type 0
WholeRow = WholeLine 32

-- number n of a line, from the sums s of its even places and t of its odd places
abbrev pub joined_by : {A : Type 0} → (plus minus : Float → Float → A) (s t : List Float) → ℕ → A
joined_by plus minus s t n = cond (ltb n 8) (plus (get_or s n nan) (get_or t n nan)) (minus (get_or s (n - 8) nan) (get_or t (n - 8) nan))

abbrev pub joined_at : (s t : List Float) → ℕ → Float
joined_at = joined_by (add binary64) (sub binary64)
