-- Each call keeps both rows, and gives the difference at its place.
use Rattle.std.specs.Prelude.{◌≡◌, ◌-ℤ◌}
use Rattle.merge_tiles.specs.Prelude.{refl, ap, ◌∙◌, List, ℕ, ℤ, ap₂, pos, get_or}
use Rattle.merge_tiles.proofs.Made.{made-tab}
use Rattle.merge_tiles.proofs.reading.difference_row.Goals as goal

abbrev difference : List ℕ → List ℕ → ℕ → ℤ
difference a b j = pos (get_or a j 0) -ℤ pos (get_or b j 0)

pub returns : goal.returns
returns g c =
    made-tab (λ f. (f.0.now ≡ c.args.a.now) × (f.1.now ≡ c.args.b.now)) (difference c.args.a.now c.args.b.now)
    (λ i p q y k d. let m : ((q.0 ≡ p.0) × (q.1 ≡ p.1)) × (y ≡ difference p.0.now p.1.now i) = d.met in
    (m.1 ∙ ap₂ (λ a b. difference a b i) k.0 k.1, (ap (λ r. r.now) m.0.0 ∙ k.0, ap (λ r. r.now) m.0.1 ∙ k.1)))
    (refl, refl) (pos 0) c.from_fn.ensures.items
