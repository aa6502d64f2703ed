-- The words of other crates that this crate's files share. Lemmas are not passed on: of those the `use` line says where they are.
pub use Rattle.std.specs.Prelude.{ℕ, suc, zero, ◌*◌, ◌+◌, ◌-◌, ◌<◌, ◌^◌, ◌≤◌, eqb, ltb, drop, get_or, length, Bool, cond, false, not, true, ◌||◌, List, [], ◌++◌, ◌∷◌, refl, ◌≡◌}
pub use Rattle.std.proofs.Common.{rules, ap, subst, sym, ◌∙◌, arith}
