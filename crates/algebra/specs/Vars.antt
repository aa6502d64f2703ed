-- Names for the variables of a ring expression: `let (A, B) = vars2 in`.
use Rattle.algebra.specs.Ring.{Expr, var}

abbrev pub vars3 : Expr × Expr × Expr
vars3 = (var 0, var 1, var 2)

abbrev pub vars4 : Expr × Expr × Expr × Expr
vars4 = (var 0, var 1, var 2, var 3)

abbrev pub vars5 : Expr × Expr × Expr × Expr × Expr
vars5 = (var 0, var 1, var 2, var 3, var 4)

abbrev pub vars6 : Expr × Expr × Expr × Expr × Expr × Expr
vars6 = (var 0, var 1, var 2, var 3, var 4, var 5)

abbrev pub vars7 : Expr × Expr × Expr × Expr × Expr × Expr × Expr
vars7 = (var 0, var 1, var 2, var 3, var 4, var 5, var 6)

abbrev pub vars8 : Expr × Expr × Expr × Expr × Expr × Expr × Expr × Expr
vars8 = (var 0, var 1, var 2, var 3, var 4, var 5, var 6, var 7)

abbrev pub vars9 : Expr × Expr × Expr × Expr × Expr × Expr × Expr × Expr × Expr
vars9 = (var 0, var 1, var 2, var 3, var 4, var 5, var 6, var 7, var 8)

abbrev pub vars10 : Expr × Expr × Expr × Expr × Expr × Expr × Expr × Expr × Expr × Expr
vars10 = (var 0, var 1, var 2, var 3, var 4, var 5, var 6, var 7, var 8, var 9)
