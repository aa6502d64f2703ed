-- The code's answers, as the definitions have them.
use Rattle.std.specs.Prelude.{Result, Ok, Err}
use Rattle.refusals.specs.declared.Refusal.{Refusal}
use Rattle.refusals.specs.Refused.{refusal_number}
use Rattle.noise.specs.declared.Levels as code
use Rattle.noise.specs.Levels.{Levels, Found, Refused}

-- the code's answer, as that
abbrev pub levels_in : Result code.Levels Refusal → Levels
levels_in (Ok levels) = Found levels.shot levels.read
levels_in (Err refusal) = Refused (refusal_number refusal)
