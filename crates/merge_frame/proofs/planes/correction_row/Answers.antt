-- The rows of either side.
use Rattle.std.specs.Prelude.{◌≡◌}
use Rattle.merge_frame.specs.Prelude.{sym, subst, List, ℕ, ℤ, TileSide, Merge, scene_at, scene_of, Stored}
use mathlib.Core.Logic.{⊎_elim}
use Rattle.recipe.specs.Side.{Side}
use Rattle.recipe.specs.Sides.{side_of}
use Rattle.recipe.specs.SideLaws.{of_16, of-32}
use Rattle.merge_frame.proofs.planes.correction_row.Goals as goal

-- a side that is not 32 is 16
sixteen : {n : ℕ} → TileSide n → (n ≡ 32 → ⊥) → n ≡ 16
sixteen t h = ⊎_elim (λ e. e) (λ e. absurd (h e)) t.is

-- a row of the burst's side is one of that side
stored-at : (m : Merge) (samples : List ℕ) (vectors : List ℤ) {parity row : ℕ} {d l : List ℤ} {n : ℕ} {side : Side} → m.shape.side ≡ n → side_of m.shape.side ≡ side
    → Stored n (scene_at side m samples vectors) parity row d l → Stored m.shape.side (scene_of m samples vectors) parity row d l
stored-at m samples vectors {parity} {row} {d} {l} {n} e f w =
    subst (λ n. Stored n (scene_of m samples vectors) parity row d l) (sym e) (subst (λ side. Stored n (scene_at side m samples vectors) parity row d l) (sym f) w)

pub returns-then-burst-eq32 : goal.returns-then-burst-eq32
returns-then-burst-eq32 c =
    let b = c.args.burst in
    let e = c.if-burst-eq32.true in
    stored-at b.merge b.samples.now b.vectors.now e (of-32 e) c.correction_row.ensures

pub returns : goal.returns
returns c =
    let b = c.args.burst in
    let e = sixteen c.requires.accepted.burst.sided c.if-burst-eq32.false in
    stored-at b.merge b.samples.now b.vectors.now e (of_16 e) c.correction_row-2.ensures
