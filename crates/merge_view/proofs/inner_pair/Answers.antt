-- A row of a pair inside its planes is a part of the frame's row.
use Rattle.std.proofs.Common.{◌≡◌, ◌+◌, ◌-◌, ◌≤◌, ℕ, List, length, get_or, take, drop, ap, ◌∙◌, arith, length-take-le, length-drop, get_or-take, get_or-drop}
use Rattle.merge_view.specs.Prelude.{tab}
use Rattle.sequences.specs.Grid.{tab-of, tab-ext}
use Rattle.merge_view.proofs.inner_pair.Goals as goal

part : (samples : List ℕ) (first n : ℕ) → first + n ≤ length samples → take (first + n - first) (drop first samples) ≡ tab n (λ l. get_or samples (first + l) 0)
part samples first n room =
    let same : first + n - first ≡ n = omega arith in
    let long : length (take n (drop first samples)) ≡ n = length-take-le n _ (simp length-drop (omega arith)) in
    ap (λ k. take k (drop first samples)) same ∙ tab-of 0 _ ∙ ap (λ k. tab k (λ l. get_or (take n (drop first samples)) l 0)) long
    ∙ tab-ext n _ _ (λ l h. get_or-take n _ l 0 h ∙ get_or-drop first samples l 0)

pub returns : goal.returns
returns g c = c.copy_from_slice.ensures.after ∙ part c.args.samples.now c.args.first g.row.LANES c.requires
