-- The names that everybody knows, in one place: orders and sums of numbers, lists, equality, whole numbers and
-- their bits. A file brings in what it uses of them by one line. Lemmas are not passed on: of those the `use` line
-- says where they are.
pub use Rattle.std.specs.Prelude.{◌≡◌, refl, Bool, true, false, not, cond, ◌&&◌, ◌||◌, List, [], ◌∷◌, ◌++◌, ℕ, zero, suc, ◌+◌, ◌-◌, ◌*◌, ◌/◌, ◌%◌, ◌^◌, ◌≤◌, ◌<◌, T, eqb, leb, ltb, length, get_or, set, take, drop, ℤ, pos, negsuc, nat_abs, neg_ℤ, ◌+ℤ◌, ◌-ℤ◌, ◌*ℤ◌}
pub use Rattle.std.proofs.Common.{sym, ap, ap₂, subst, ◌∙◌, arith, rules, lit≤, lit<, SFits, to_z, of_z, to_z-of_z}
pub use Rattle.std.specs.Int.{w16, w32, w64}
