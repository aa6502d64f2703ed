-- What stands behind the last row of the table, and a text with zeros put behind it.
use Rattle.std.specs.Prelude.{◌≡◌, ◌++◌, ◌+◌, ◌-◌, ◌≤◌, replicate}
use Rattle.algebra.specs.Prelude.{true, refl, sym, ap, ◌∙◌, List, ℕ, suc, arith, leb, length, get_or, take, drop}
use Rattle.std.proofs.Math.ListN.{get_or-eq_default}
use Rattle.std.proofs.lemmas.List.{get_or_append_left, get_or-append_right, get_or-replicate, length-replicate}
use Rattle.std.proofs.lemmas.Grind.{same_number_lists}
use Rattle.std.proofs.Common.{length-append, inl, inr, take_at, leb-true}
use Rattle.printing.specs.Put.{put, Printed}
use Rattle.std.proofs.lemmas.Bool.{cases_lt}
use Rattle.sequences.specs.Tab.{tab}
use Rattle.sequences.specs.TabLaws.{length-tab, get_d-tab}
use Rattle.c_words.specs.Words.{unknown, word_table, words_of, padded}

pub beyond : (number : ℕ) → 28 ≤ number → words_of number ≡ unknown
unfolding words_of word_table
beyond number h = get_or-eq_default word_table unknown {n = number} h

pub padded_by : (text : List ℕ) (zeros room : ℕ) → length text + zeros ≡ room → text ++ replicate zeros 0 ≡ padded room text
unfolding padded
padded_by text zeros room e =
    let same : length (text ++ replicate zeros 0) ≡ room = rw (length-append, length-replicate) e in
    let all : length (tab room (λ k. get_or text k 0)) ≡ room = length-tab (λ k. get_or text k 0) room in
    same_number_lists _ _ (same ∙ sym all) (λ k h.
    let there = get_d-tab (λ k. get_or text k 0) 0 room k (omega arith) in
    let past = get_or-eq_default text 0 {n = k} in
    let front = get_or_append_left text (replicate zeros 0) 0 k in
    let back = get_or-append_right text (replicate zeros 0) (length text) k 0 refl in
    elim (cases_lt k (length text)) [
      | inl inside ↦ front inside ∙ sym there
      | inr behind ↦ back behind ∙ get_or-replicate zeros (k - length text) 0 0 (omega arith) ∙ sym (past behind) ∙ sym there
    ])

-- a number that is none of those below n, nor n
pub past : {n k : ℕ} → n ≤ k → (k ≡ n → ⊥) → suc n ≤ k
past h e = omega arith

-- the words of k, put for a number that is k
pub said : (k : ℕ) {number next : ℕ} {l m : List ℕ} → number ≡ k → leb (length (words_of k)) 128 ≡ true → Printed l 0 (words_of k) m next → (Printed l 0 (words_of number) m next) × (next ≤ 128)
said k {number} {next} {l} {m} e small p = (rw e p, omega (arith, p.place, leb-true (length (words_of k)) 128 small))

-- a text put at the start of a buffer is what it then starts with
pub starts : {l text m : List ℕ} {next : ℕ} → Printed l 0 text m next → take next m ≡ text
unfolding put
starts {l} {text} {m} {next} p = ap (take next) p.text ∙ take_at text (drop (0 + length text) l) next (omega (arith, p.place))
