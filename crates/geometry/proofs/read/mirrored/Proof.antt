-- In the first period the place is k itself; beyond it, what the remainder leaves.
use Rattle.algebra.specs.Prelude.{sym, ◌∙◌, arith, rules}
use native.Mathlib.Nat.{mod-lt}
use Rattle.geometry.specs.ReadLaws.{first-period}
use Rattle.geometry.proofs.read.mirrored as of

returns : of.Tie.Need-returns-then-k-size
returns c = let a = c.before.before.args in (c.folded.ensures.0 ∙ sym (first-period a.size a.k c.before.if-k-size.true), c.folded.ensures.1)

folded-requires : of.Tie.Need-folded-requires-2
folded-requires c κs = record { some = omega arith; most = omega arith; place_in = mod-lt c.before.args.k (omega arith) }

pub mirrored_spec : {M : Type 1} → of.Statement.statement M
mirrored_spec = of.Tie.close (of.Tie.spec (λ c. search rules) (λ c κs. search rules) returns (λ c. search rules) (λ c. search rules) folded-requires (λ c. search rules))
