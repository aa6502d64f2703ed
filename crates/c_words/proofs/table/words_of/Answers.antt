-- The number's words are those of the table, and those of none stand behind the last.
use Rattle.std.proofs.Common.{rules, ap, List, ℕ, Bor, ◌≤◌, ◌<◌}
use Rattle.std.proofs.lemmas.List.{get_or-map}
use Rattle.c_words.specs.Words.{word_table, words_of, unknown}
use Rattle.c_words.specs.WordLaws.{beyond}
use Rattle.c_words.proofs.table.words_of.Goals as goal

pub returns-in-Some : goal.returns-in-Some
unfolding word_table words_of
returns-in-Some c =
    let below : c.args.number < 28 = search rules in
    let g = ap (λ (text : Bor (List ℕ)). text.now) c.in-Some.ensures.lookup.1 in
    let h = rw (← get_or-map (λ (text : Bor (List ℕ)). text.now) _ c.args.number _ unknown below) at g in
    h

pub returns-in-None : goal.returns-in-None
returns-in-None c = let none : 28 ≤ c.args.number = search rules in search (rules, beyond)
