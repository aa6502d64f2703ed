-- Where the values of an entry stand, by the bytes that they take.
use Rattle.algebra.specs.Prelude.{refl, sym, ap, ◌∙◌, List, [], ℕ, arith, eqb}
use Rattle.std.specs.Prelude.{Bool, cond, ◌&&◌, ◌||◌, ◌≡◌, ◌∷◌, ◌*◌, ◌≤◌, ◌<◌}
use Rattle.std.proofs.Math.Bool.{true, false}
use Rattle.std.proofs.lemmas.Bool.{false≢true}
use Rattle.std.proofs.Common.{mul-le-mul}
use borrow.Author.Tests.{le-leb, lt-leb, eqb-true}
use Rattle.file_dng.specs.declared.tiff.Entry.{Entry}
use Rattle.file_dng.specs.declared.tiff.Field.{Field}
use Rattle.file_dng.specs.declared.tiff.Wanted.{Wanted}
use Rattle.file_dng.specs.Tiff.Bytes.{long}
use Rattle.file_dng.specs.Tiff.Fields.{right, size_of, field_at, first_field}
use Rattle.file_dng.specs.Tiff.Fits.{FieldRead}

-- values of one size take few bytes
pub bytes_most : (size count most : ℕ) → size ≤ 8 → count ≤ most → size * count ≤ 8 * most
bytes_most size count most s h = mul-le-mul {n₁ = size} {m₁ = count} {n₂ = 8} {m₂ = most} s h

module _ (file : List ℕ) (entry : Entry) {size : ℕ} (is : size ≡ size_of entry.kind) (small : size ≤ 8) where
  pub field-inline : size * entry.count ≤ 4 → entry.at < 2199023255552 → FieldRead (field_at file entry) (record { size = size; at = entry.at })
  unfolding field_at
  field-inline h l = let few : size_of entry.kind * entry.count ≤ 4 = rw is at h in record { is = rw (is, le-leb _ _ few); size_small = small; at_small = l }

  pub field-offset : {at : ℕ} → 4 < size * entry.count → at ≡ long file entry.at → at < 4294967296 → FieldRead (field_at file entry) (record { size = size; at = at })
  unfolding field_at
  field-offset {at} h e l = let many : 4 < size_of entry.kind * entry.count = rw is at h in record { is = rw (is, lt-leb _ _ many, e); size_small = small; at_small = omega arith }

-- the same field by another name
pub field_is : {a b field : Field} → a ≡ b → FieldRead a field → FieldRead b field
field_is e r = record { is = r.is ∙ e; size_small = r.size_small; at_small = r.at_small }

-- one of the entries is right
pub data HasRight (wanted : Wanted) : List Entry → Type 0 where
  here : {entry : Entry} {others : List Entry} → right wanted entry ≡ true → HasRight wanted (entry ∷ others)
  there : {entry : Entry} {others : List Entry} → HasRight wanted others → HasRight wanted (entry ∷ others)

-- types that have a size
pub record Sized (wanted : Wanted) : Type 0 where
  pub kind : size_of wanted.kind ≡ 0 → ⊥
  pub other : size_of wanted.other ≡ 0 → ⊥

module _ (file : List ℕ) (wanted : Wanted) where
  -- a right entry's values have a size
  right-sized : Sized wanted → (entry : Entry) → right wanted entry ≡ true → (field_at file entry).size ≡ 0 → ⊥
  unfolding right field_at
  right-sized sized entry e z =
      let first = eqb entry.kind wanted.kind in
      let second = eqb entry.kind wanted.other in
      from first refl (both (eqb entry.tag wanted.tag) (first || second) (both (eqb entry.tag wanted.tag && (first || second)) (eqb entry.count wanted.count) e).0).1
    where
      both : (a b : Bool) → (a && b) ≡ true → (a ≡ true) × (b ≡ true)
      both true b e = (refl, e)
      both false b e = absurd (false≢true e)

      from : (b : Bool) → eqb entry.kind wanted.kind ≡ b → (b || eqb entry.kind wanted.other) ≡ true → ⊥
      from true is h = sized.kind (ap size_of (sym (eqb-true _ _ is)) ∙ z)
      from false is h = sized.other (ap size_of (sym (eqb-true _ _ h)) ∙ z)

  -- a field has a size exactly where there is a right entry
  pub has-size : Sized wanted → (es : List Entry) → HasRight wanted es → (first_field file wanted es).size ≡ 0 → ⊥
  unfolding first_field
  has-size sized [] x'' z = elim x'' [ ]
  has-size sized (entry ∷ others) (here e) z = right-sized sized entry e (rw e at z)
  has-size sized (entry ∷ others) (there h) z = from (has-size sized others h) (right wanted entry) refl z
    where
      from : ((first_field file wanted others).size ≡ 0 → ⊥) → (b : Bool) → right wanted entry ≡ b → (cond b (field_at file entry) (first_field file wanted others)).size ≡ 0 → ⊥
      from again true is z = right-sized sized entry is z
      from again false is z = again z

  pub size-has : (es : List Entry) → ((first_field file wanted es).size ≡ 0 → ⊥) → HasRight wanted es
  unfolding first_field
  size-has [] n = absurd (n refl)
  size-has (entry ∷ others) n = from (size-has others) (right wanted entry) refl n
    where
      from : (((first_field file wanted others).size ≡ 0 → ⊥) → HasRight wanted others) → (b : Bool) → right wanted entry ≡ b → ((cond b (field_at file entry) (first_field file wanted others)).size ≡ 0 → ⊥) → HasRight wanted (entry ∷ others)
      from again true is n = here is
      from again false is n = there (again n)
