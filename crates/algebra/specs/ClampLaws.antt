-- The least, the greatest and the clamp by cases; clamping does not stretch.
use Rattle.algebra.specs.Prelude.{refl, subst, Bool, true, false, not, cond, T, ℤ, nat_abs}
use Rattle.std.specs.Prelude.{◌≤ℤ◌, ◌≡◌, ◌≤◌, ◌-ℤ◌}
use Rattle.std.specs.Int.Signed.{lt_z, lt_z_yes, lt_z_no}
use Rattle.algebra.specs.Order.{zarith, sub-pn, abs-pn, min-pn, <ℤ-≤ℤ}
use Rattle.algebra.specs.Clamp.{min_z, max_z, clamp_z}

cases : (c : Bool) (x y : ℤ) (P : ℤ → Type 0) → (T c → P x) → (T (not c) → P y) → P (cond c x y)
cases true x y P f g = f tt
cases false x y P f g = g tt

pub min_cases : (a b : ℤ) (P : ℤ → Type 0) → (b ≤ℤ a → P b) → (a ≤ℤ b → P a) → P (min_z a b)
unfolding min_z
min_cases a b P f g = cases (lt_z b a) b a P (λ t. f (<ℤ-≤ℤ (lt_z_yes t))) (λ t. g (lt_z_no t))

pub max_cases : (a b : ℤ) (P : ℤ → Type 0) → (a ≤ℤ b → P b) → (b ≤ℤ a → P a) → P (max_z a b)
unfolding max_z
max_cases a b P f g = cases (lt_z a b) b a P (λ t. f (<ℤ-≤ℤ (lt_z_yes t))) (λ t. g (lt_z_no t))

-- the three ways that a clamp goes
pub clamp-cases : (lo hi z : ℤ) → lo ≤ℤ hi → (P : ℤ → Type 0) → (z ≤ℤ lo → P lo) → (lo ≤ℤ z → z ≤ℤ hi → P z) → (hi ≤ℤ z → P hi) → P (clamp_z lo hi z)
unfolding clamp_z
clamp-cases lo hi z h P f g k =
    max_cases lo z (λ m. P (min_z hi m))
    (λ a. min_cases hi z P (λ b. g a b) (λ b. k b))
    (λ a. min_cases hi lo P (λ b. f a) (λ b. subst P (omega zarith) (f a)))

pub clamp-low : (lo hi z : ℤ) → lo ≤ℤ hi → lo ≤ℤ clamp_z lo hi z
clamp-low lo hi z h = clamp-cases lo hi z h (λ t. lo ≤ℤ t) (λ a. omega zarith) (λ a b. a) (λ a. h)

pub clamp-same : (lo hi z : ℤ) → lo ≤ℤ z → z ≤ℤ hi → clamp_z lo hi z ≡ z
clamp-same lo hi z h k = clamp-cases lo hi z (omega zarith) (λ t. t ≡ z) (λ a. omega zarith) (λ a b. refl) (λ a. omega zarith)

-- |clamp x − clamp y| ≤ |x − y|
pub clamp-near : (lo hi x y : ℤ) → lo ≤ℤ hi → nat_abs (clamp_z lo hi x -ℤ clamp_z lo hi y) ≤ nat_abs (x -ℤ y)
clamp-near lo hi x y h =
    clamp-cases lo hi x h (λ t. nat_abs (t -ℤ clamp_z lo hi y) ≤ nat_abs (x -ℤ y))
    (λ a. clamp-cases lo hi y h (λ t. nat_abs (lo -ℤ t) ≤ nat_abs (x -ℤ y)) (λ b. omega (zarith, sub-pn lo lo, min-pn (lo -ℤ lo), abs-pn (lo -ℤ lo), sub-pn x y, min-pn (x -ℤ y), abs-pn (x -ℤ y))) (λ b d. omega (zarith, sub-pn lo y, min-pn (lo -ℤ y), abs-pn (lo -ℤ y), sub-pn x y, min-pn (x -ℤ y), abs-pn (x -ℤ y))) (λ b. omega (zarith, sub-pn lo hi, min-pn (lo -ℤ hi), abs-pn (lo -ℤ hi), sub-pn x y, min-pn (x -ℤ y), abs-pn (x -ℤ y))))
    (λ a e. clamp-cases lo hi y h (λ t. nat_abs (x -ℤ t) ≤ nat_abs (x -ℤ y)) (λ b. omega (zarith, sub-pn x lo, min-pn (x -ℤ lo), abs-pn (x -ℤ lo), sub-pn x y, min-pn (x -ℤ y), abs-pn (x -ℤ y))) (λ b d. omega (zarith, sub-pn x y, min-pn (x -ℤ y), abs-pn (x -ℤ y), sub-pn x y, min-pn (x -ℤ y), abs-pn (x -ℤ y))) (λ b. omega (zarith, sub-pn x hi, min-pn (x -ℤ hi), abs-pn (x -ℤ hi), sub-pn x y, min-pn (x -ℤ y), abs-pn (x -ℤ y))))
    (λ a. clamp-cases lo hi y h (λ t. nat_abs (hi -ℤ t) ≤ nat_abs (x -ℤ y)) (λ b. omega (zarith, sub-pn hi lo, min-pn (hi -ℤ lo), abs-pn (hi -ℤ lo), sub-pn x y, min-pn (x -ℤ y), abs-pn (x -ℤ y))) (λ b d. omega (zarith, sub-pn hi y, min-pn (hi -ℤ y), abs-pn (hi -ℤ y), sub-pn x y, min-pn (x -ℤ y), abs-pn (x -ℤ y))) (λ b. omega (zarith, sub-pn hi hi, min-pn (hi -ℤ hi), abs-pn (hi -ℤ hi), sub-pn x y, min-pn (x -ℤ y), abs-pn (x -ℤ y))))

pub clamp-below : (lo hi z : ℤ) → lo ≤ℤ hi → z ≤ℤ lo → clamp_z lo hi z ≡ lo
clamp-below lo hi z h k = clamp-cases lo hi z h (λ t. t ≡ lo) (λ a. refl) (λ a b. omega zarith) (λ a. omega zarith)

pub clamp-above : (lo hi z : ℤ) → lo ≤ℤ hi → hi ≤ℤ z → clamp_z lo hi z ≡ hi
clamp-above lo hi z h k = clamp-cases lo hi z h (λ t. t ≡ hi) (λ a. omega zarith) (λ a b. omega zarith) (λ a. refl)
