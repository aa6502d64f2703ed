-- The window starts 4 rows and columns before the tile moved by the guess.
use Rattle.std.specs.Prelude.{◌≡◌, ◌^◌}
use Rattle.align_tile.specs.Prelude.{ap, ◌∙◌, arith, rules, lit≤, negsuc, ◌plus◌, Within}
use Rattle.align_search.specs.VectorLaws.{within_more, plus-within}
use Rattle.align_tile.specs.Stored.{pair_in}
use Rattle.align_tile.proofs.copy_window as of

-- the window's corner
corner : (c : of.Tie.After-sum-corner) → let a = c.before.before.before.before.before.args in c.sum-corner.result ≡ a.tile.origin plus a.guess plus record { down = negsuc 3; right = negsuc 3 }
corner c = c.sum-corner.ensures ∙ ap (λ v. v plus record { down = negsuc 3; right = negsuc 3 }) c.before.sum.ensures

sum-requires-2 : of.Tie.Need-sum-corner-requires
sum-requires-2 c κs = let s = c.before.before.before.before in
    (rw c.sum.ensures (within_more (2 ^ 20) (plus-within s.requires.placed.near s.requires.near) (lit≤ tt)), record { vertical = lit≤ tt; sideways = lit≤ tt })

copy-square-requires : of.Tie.Need-copy_square-requires
copy-square-requires c κs = let s = c.before.before.before.before.before.before.before in
    let h = s.requires.placed in
    let four : Within 4 (record { down = negsuc 3; right = negsuc 3 }) = record { vertical = lit≤ tt; sideways = lit≤ tt } in
    record { source = s.requires.stored.other; near = rw (corner c.before.before) (within_more (2 ^ 20) (plus-within (plus-within h.near s.requires.near) four) (lit≤ tt)); small = omega (arith, h.small); eights = omega (arith, h.eights); room = s.requires.room }

returns : of.Tie.Need-returns
unfolding pair_in
returns c = let s = c.before.before.before.before.before.before.before.before.before.before in
    record { room = omega (arith, s.requires.room); copied = rw (corner c.before.before.before.before.before) at c.before.before.copy_square.ensures }

pub copy_window_spec : {M : Type 1} → of.Statement.statement M
copy_window_spec = of.Tie.close (of.Tie.spec
    (λ c κs. search rules) sum-requires-2 (λ c. search rules) copy-square-requires
    (λ c. search rules) returns)
