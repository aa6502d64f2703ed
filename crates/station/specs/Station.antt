-- The noise number that the capture station asks for.
use Rattle.std.specs.Prelude.{◌&&◌, cond, [], ◌∷◌, ℕ, ◌*◌, eqb, leb, Float}
use Rattle.refusals.specs.Tests.{first}
use Rattle.noise.specs.declared.Noise.TheVariants.{Measured}
use Rattle.noise.specs.Levels.{Levels, levels_of, refusal_of, shot_level, read_level, strength_refusal}
use Rattle.geometry.specs.Shape.{side_allowed}
use Rattle.recipe.specs.Sides.{side_of}
use Rattle.recipe.specs.NoiseNumber.{noise_number}

-- of a noise's levels
unfoldable pub noise_answer : Levels → (strength root side : ℕ) → ℕ
noise_answer levels strength root side =
    cond (eqb (first (refusal_of levels ∷ strength_refusal strength ∷ [])) 0 && (side_allowed side && leb root (4095 * side)))
    (noise_number (side_of side) strength (shot_level levels) (read_level levels) root)
    0

-- "the noise number is V from a curve (no ISO), t and r, and answers 0 where 8, 9 or 10 would, or where its root r exceeds 65520"; it "takes the side, is 0 where
-- 22 would stand" (request L8), and at side 32 the root goes up to 131040
unfoldable pub noise_question : Float → Float → (strength root side : ℕ) → ℕ
noise_question shot read strength root side = noise_answer (levels_of (Measured (record { shot = shot; read = read }))) strength root side
