-- V of an r that is at most 65520.
use Rattle.algebra.specs.Prelude.{rules}
use Rattle.noise.specs.NoiseNumberLaws.{noise-number-bound}
use Rattle.range_tiles.proofs.noises as of

returns : of.Tie.Need-returns
returns c =
    let p = c.requires in
    let e = c.noise_number-a.ensures.0 in
    let f = c.noise_number-b.ensures.0 in
    record {
      first_is = e;
      second_is = f;
      fits = record {
        first_most = rw e (noise-number-bound p.strength_most p.shot_most p.read_most p.first_most);
        second_most = rw f (noise-number-bound p.strength_most p.shot_most p.read_most p.second_most);
      };
    }

pub noises_spec : {M : Type 1} → of.Statement.statement M
noises_spec = of.Tie.close (of.Tie.spec (λ c κs. search rules) (λ c κs. search rules) returns)
