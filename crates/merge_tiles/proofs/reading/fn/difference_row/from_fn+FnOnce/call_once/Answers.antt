-- The difference fits its word.
use Rattle.std.proofs.Common.{◌≡◌, ◌∙◌, rules}
use Rattle.algebra.specs.Prelude.{w16, to_z, of_z}
use Rattle.merge_tiles.proofs.reading.fn.difference_row.from_fn+FnOnce.call_once.Goals as goal

pub returns : goal.returns
returns g c =
    let e : to_z w16 (of_z w16 c.from_fn.result) ≡ c.from_fn.result = search rules in
    (c.from_fn.new.arg1, (c.from_fn.kept-captures, e ∙ c.from_fn.ensures))
