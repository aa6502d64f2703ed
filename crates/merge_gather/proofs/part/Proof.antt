-- A word, which is small, times its weight.
use Rattle.algebra.specs.Prelude.{◌∙◌, rules, get_or, pos, w64, to_z-of_z}
use Rattle.algebra.specs.Bound.{AtMost, most_fits}
use Rattle.merge_tiles.specs.Sum.{taken_most}
use Rattle.merge_gather.specs.Work.{weight_most}
use Rattle.merge_tiles.specs.SignedLaws.{product_is, product-most}
use Rattle.merge_gather.proofs.part as of

word_small : (c : of.Tie.Start) → AtMost taken_most (get_or c.args.work.now c.args.at (pos 0))
word_small c = record { most = c.requires.word-most }

weight-small : (c : of.Tie.Start) → AtMost weight_most (get_or c.args.weights.now c.args.l (pos 0))
weight-small c = record { most = c.requires.weight-most }

mul-result-3 : of.Tie.Need-overflow_mul-result
mul-result-3 c = let s = c.before.before in most_fits w64 _ _ (product-most (weight-small s) (word_small s) tt tt) tt

returns : of.Tie.Need-returns
returns c =
    let s = c.before.before in
    let e = to_z-of_z (mul-result-3 c) in
    (e ∙ product_is (weight-small s) (word_small s) tt tt, rw e (product-most (weight-small s) (word_small s) tt tt))

pub part_spec : {M : Type 1} → of.Statement.statement M
part_spec = of.Tie.close (of.Tie.spec
    (λ c. search rules) (λ c. search rules) (λ c. search rules) (λ c. search rules) mul-result-3 returns)
