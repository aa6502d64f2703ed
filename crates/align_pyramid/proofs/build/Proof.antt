-- Level 0 is laid and then halved down.
use Rattle.align_pyramid.specs.Prelude.{level_size, arith, rules}
use Rattle.align_pyramid.proofs.Building.{squares-fit, begun, begun-room, begun-halvings, built}
use Rattle.align_pyramid.proofs.build as of

lay-squares-requires : of.Tie.Need-lay_squares-requires
lay-squares-requires c κs = let s = c.before.before in (s.requires.0, omega (arith, squares-fit s.args.shape))

halve-down-requires : of.Tie.Need-halve_down-requires
unfolding level_size
halve-down-requires c κs =
    let first = c.before.before.before.before in
    let s = first.before.before.before in
    begun-room (begun s.requires.0 s.requires.1 first.lay_squares.ensures)

returns : of.Tie.Need-returns
unfolding level_size
returns c =
    let first = c.before.before.before.before.before.before in
    let s = first.before.before.before in
    built (begun-halvings (begun s.requires.0 s.requires.1 first.lay_squares.ensures) c.before.halve_down.ensures)

pub build_spec : {M : Type 1} → of.Statement.statement M
build_spec = of.Tie.close (of.Tie.spec
    lay-squares-requires halve-down-requires (λ c. search rules) returns)
