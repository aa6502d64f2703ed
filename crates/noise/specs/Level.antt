-- Tests of a float's value, and its floor in units of 1/1024. The value of `fin s m e` is m · 2 ^ e, negative where s is true: the fraction (m * up e) / down e.
use Rattle.std.specs.Prelude.{◌&&◌, ◌*◌, ◌/◌}
use Rattle.noise.specs.Prelude.{Bool, true, false, not, ℕ, ltb, Float, nan, inf, fin, up, down}

-- "negative or not finite"; "Negative zero is zero"
abbrev pub invalid : Float → Bool
invalid nan = true
invalid (inf s) = true
invalid (fin s m e) = s && ltb 0 m

-- the value is above k
abbrev pub exceeds : ℕ → Float → Bool
exceeds k nan = false
exceeds k (inf s) = not s
exceeds k (fin s m e) = not s && ltb (k * down e) (m * up e)

-- "Ls = floor(1024 shot) and Lr = floor(1024 read)", of a value that is finite and not negative
abbrev pub floor1024 : Float → ℕ
floor1024 nan = 0
floor1024 (inf s) = 0
floor1024 (fin s m e) = 1024 * (m * up e) / down e
