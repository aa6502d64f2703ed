-- Each number is that of the definition.
use native.Mathlib.Nat.{zero-add}
use Rattle.std.specs.Prelude.{◌≡◌, ◌+◌, ◌/◌}
use Rattle.algebra.specs.Prelude.{sym, ap, ap₂, ◌∙◌, ℕ, rules}
use Rattle.align_burst.specs.Prelude.{Shape, level_size, offset, pyramid_length, Area, level_at}
use Rattle.align_burst.specs.Sites.{image_number, area_at}
use Rattle.align_burst.proofs.frame.area_at as of

made : (shape : Shape) (level r o h w : ℕ) → r ≡ 0 + offset shape (image_number level) → o ≡ pyramid_length shape + offset shape (image_number level) → h ≡ shape.height / (level_at shape.side level).scale → w ≡ shape.width / (level_at shape.side level).scale → ◌≡◌ {A = Area} (record { reference = record { from = r; height = h; width = w }; other = record { from = o; height = h; width = w } }) (area_at shape level)
unfolding area_at level_size
made shape level r o h w er eo eh ew = rw (er, eo, eh, ew)

returns : of.Tie.Need-returns
returns c = let n = c.before.before in
    let o = n.before.before in
    let a = o.before.before.args in
    let from = o.offset-from.ensures.0 ∙ ap (offset a.shape) o.before.image_number.ensures.0 in
    let scale = n.scale_of-scale.ensures.0 in
    made a.shape a.level _ _ _ _ (from ∙ sym (zero-add _)) (ap₂ ◌+◌ n.before.offset-length.ensures.0 from) (ap (λ s. a.shape.height / s) scale) (ap (λ s. a.shape.width / s) scale)

pub area_at_spec : {M : Type 1} → of.Statement.statement M
area_at_spec = of.Tie.close (of.Tie.spec
    (λ c κs. search rules) (λ c κs. search rules) (λ c κs. search rules) (λ c κs. search rules)
    (λ c. search rules) (λ c. search rules) (λ c. search rules) returns)
