-- A list with a part of it written over: the invariant of a loop that stores f 0 .. f (n − 1) from a place on, and what stands where afterwards.
use Rattle.std.specs.Prelude.{◌≡◌, refl, length, set, ◌++◌, ◌+◌, ◌≤◌, ◌<◌}
use Rattle.std.proofs.Common.{sym, ◌∙◌, subst₂, add-one, zero-add, length-set, length-take-le, ext_get_or}
use Rattle.std.proofs.Math.Path.{ap, subst}
use Rattle.algebra.specs.Prelude.{List, ℕ, zero, suc, arith}
use Rattle.std.proofs.Math.ListN.{get_or, take, drop, get_or-append}
use Rattle.std.proofs.Math.Seq.{paste, paste-zero, paste-suc, length-paste, length_paste_head, get_or-append-add, get_or-take, get_or-drop}
use Rattle.sequences.specs.Tab.{tab}
use Rattle.sequences.specs.TabLaws.{length-tab, get_d-tab}
use Rattle.sequences.specs.Grid.{tab-ext}
unfoldable pub use Rattle.sequences.specs.Written.{written}

-- l is d after j of the n stores: a loop's invariant
pub record Writing {A : Type 0} (d : List A) (at : ℕ) (f : ℕ → A) (n j : ℕ) (l : List A) : Type 0 where
  pub count : j ≤ n
  pub room : at + n ≤ length d
  pub same : length l ≡ length d
  pub is : l ≡ paste d at (tab n f) j

module _ {A : Type 0} {d : List A} {at : ℕ} {f : ℕ → A} {n : ℕ} where
  pub write-start : at + n ≤ length d → Writing d at f n 0 d
  write-start r = record { count = omega arith; room = r; same = refl; is = paste-zero d at (tab n f) }

  pub write-turn : {j : ℕ} {l : List A} {v : A} → Writing d at f n j l → j < n → v ≡ f j → Writing d at f n (j + 1) (set l (at + j) v)
  write-turn {j} {l} {v} w h e =
      record {
        count = omega arith;
        room = w.room;
        same = length-set l (at + j) v ∙ w.same;
        is =
            ap (λ (x : List A). set x (at + j) v) w.is
            ∙ ap (λ (x : A). set (paste d at (tab n f) j) (at + j) x) (e ∙ sym (get_d-tab f v n j h))
            ∙ paste-suc d at (tab n f) j v (omega (arith, w.room)) (omega (arith, length-tab f n))
            ∙ ap (λ (k : ℕ). paste d at (tab n f) k) (sym (add-one j));
      }

  pub write_done : {j : ℕ} {l : List A} → Writing d at f n j l → n ≤ j → l ≡ written d at f n
  unfolding written
  write_done {j} {l} w h = let e : j ≡ n = omega arith in w.is ∙ ap (λ (k : ℕ). paste d at (tab n f) k) e

-- m stores at once, of g 0 .. g (m − 1)
module _ {A : Type 0} {d : List A} {at : ℕ} {f : ℕ → A} {n j m : ℕ} {l : List A} {g : ℕ → A} (w : Writing d at f n j l) (room : j + m ≤ n) (e : (k : ℕ) → k < m → g k ≡ f (j + k)) where
  parts : (i : ℕ) → i ≤ m → Writing d at f n (j + i) (paste l (at + j) (tab m g) i)
  parts zero h = subst₂ (λ k x. Writing d at f n k x) (omega arith) (paste-zero l (at + j) (tab m g)) w
  parts (suc i) h =
      let p = paste l (at + j) (tab m g) i in
      let v = get_or (tab m g) i (g i) in
      let same = w.same in
      let fits = w.room in
      subst₂ (λ k x. Writing d at f n k x) (omega arith)
      (ap (λ k. set p k v) (omega arith) ∙ paste-suc l (at + j) (tab m g) i (g i) (omega arith) (omega (arith, length-tab g m)))
      (write-turn (parts i (omega arith)) (omega arith) (get_d-tab g (g i) m i h ∙ e i h))

  pub write-part : {l' : List A} → l' ≡ written l (at + j) g m → Writing d at f n (j + m) l'
  unfolding written
  write-part {l'} is = subst (Writing d at f n (j + m)) (sym is) (parts m (omega arith))

-- what stands in the list afterwards: before, in and after the part
module _ {A : Type 0} (d : List A) (at : ℕ) (f : ℕ → A) (n : ℕ) (z : A) (room : at + n ≤ length d) where
  head-length : length (take at d ++ take n (tab n f)) ≡ at + n
  head-length = length_paste_head d at (tab n f) n (omega arith) (omega (arith, length-tab f n))

  take-length-at : length (take at d) ≡ at
  take-length-at = length-take-le at d (omega arith)

  pub written_in : (k : ℕ) → k < n → get_or (written d at f n) (at + k) z ≡ f k
  unfolding written
  written_in k h =
      get_or-append (take at d ++ take n (tab n f)) (drop (at + n) d) z (at + k) (omega (arith, head-length))
      ∙ ap (λ (m : ℕ). get_or (take at d ++ take n (tab n f)) (m + k) z) (sym take-length-at)
      ∙ get_or-append-add (take at d) (take n (tab n f)) k z
      ∙ get_or-take n (tab n f) k z h
      ∙ get_d-tab f z n k h

  pub written-before : (k : ℕ) → k < at → get_or (written d at f n) k z ≡ get_or d k z
  unfolding written
  written-before k h =
      get_or-append (take at d ++ take n (tab n f)) (drop (at + n) d) z k (omega (arith, head-length))
      ∙ get_or-append (take at d) (take n (tab n f)) z k (omega (arith, take-length-at))
      ∙ get_or-take at d k z h

  pub written_after : (k : ℕ) → get_or (written d at f n) (at + n + k) z ≡ get_or d (at + n + k) z
  unfolding written
  written_after k =
      ap (λ (m : ℕ). get_or (take at d ++ take n (tab n f) ++ drop (at + n) d) (m + k) z) (sym head-length)
      ∙ get_or-append-add (take at d ++ take n (tab n f)) (drop (at + n) d) k z
      ∙ get_or-drop (at + n) d k z

  pub written-length : length (written d at f n) ≡ length d
  unfolding written
  written-length = length-paste d at (tab n f) n room (omega (arith, length-tab f n))

-- a list that is written over whole
pub written_all : {A : Type 0} (z : A) (d : List A) (f : ℕ → A) (n : ℕ) → length d ≡ n → written d 0 f n ≡ tab n f
written_all z d f n e =
    let room : 0 + n ≤ length d = omega arith in
    let long = written-length d 0 f n z room in
    ext_get_or z (written d 0 f n) (tab n f) (long ∙ e ∙ sym (length-tab f n))
    (λ i h. let below : i < n = omega (arith, long) in (rw zero-add at (written_in d 0 f n z room i below)) ∙ sym (get_d-tab f z n i below))

-- a part that is written over with equal values
pub written-ext : {A : Type 0} (d : List A) (at n : ℕ) (f g : ℕ → A) → ((j : ℕ) → j < n → f j ≡ g j) → written d at f n ≡ written d at g n
unfolding written
written-ext d at n f g e = ap (λ l. paste d at l n) (tab-ext n f g e)
