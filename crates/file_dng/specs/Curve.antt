-- "NoiseProfile .. with one pair S, O becomes the curve shot = S times 4095, read = (O times 4095) times 4095, as f64 operations in that order."
use Rattle.std.specs.Prelude.{pos, Float}
use Rattle.std.specs.Float.{binary64}
use Rattle.std.specs.Float.Ieee.{mul, of_int}

abbrev pub times4095 : Float → Float
times4095 x = mul binary64 x (of_int binary64 (pos 4095))

abbrev pub shot_of : Float → Float
shot_of s = times4095 s

abbrev pub read_of : Float → Float
read_of o = times4095 (times4095 o)
