-- The words of other crates that this crate's files share. Lemmas are not passed on: of those the `use` line says where they are.
pub use Rattle.algebra.specs.Prelude.{Bool, List, T, ℕ, ℤ, [], ap, ap₂, arith, cond, eqb, false, get_or, leb, length, lit<, lit≤, ltb, nat_abs, negsuc, neg_ℤ, not, pos, refl, set, subst, suc, sym, true, zero, ◌∙◌}
pub use Rattle.std.proofs.Common.{leb→le, ltb→lt, nltb→le}
pub use Rattle.std.specs.Prelude.{Float, ◌%◌, ◌*◌, ◌*ℤ◌, ◌+◌, ◌+ℤ◌, ◌-◌, ◌-ℤ◌, ◌/◌, ◌<◌, ◌^◌, ◌∷◌, ◌≡◌, ◌≤◌}
pub use Rattle.std.specs.Float.Ieee.{add, in_signed, of_int, sub, to_signed}
pub use Rattle.std.specs.Float.{binary64, nan}
pub use Rattle.std.specs.Int.{Width, w16, w32}
pub use mir.Val.{SFits, hbits, of_z, to_z}
pub use Rattle.algebra.specs.Bound.{AtMost}
pub use Rattle.algebra.specs.Ring.{Expr, #◌, con, eval, nth, ring, var, ⊖◌, ◌⊞◌, ◌⊟◌, ◌⊠◌}
unfoldable pub use Rattle.algebra.specs.Sums.{sum_n, sum_z}
unfoldable pub use Rattle.sequences.specs.Tab.{tab}
pub use Rattle.recipe.specs.Side.{Side}
unfoldable pub use Rattle.recipe.specs.Side.{cos_at}
pub use Rattle.recipe.specs.TableRules.{Doubled, Rules}
unfoldable pub use Rattle.recipe.specs.Tables.{cosine16, cosines, side16}
