-- The words in front, and zeros for what is left behind them.
use Rattle.std.proofs.Common.{ap, ◌∙◌, ◌≡◌, length, arith, leb, true}
use borrow.Author.Tests.{le-leb}
use Rattle.c_words.specs.Words.{words_of, padded}
use Rattle.c_words.proofs.refusal_words.Goals as goal

pub returns-then-words-text : goal.returns-then-words-text
returns-then-words-text c =
    let words = words_of c.args.number in
    let text = c.args.text.now in
    let is : c.as_bytes-words.result.now ≡ words = c.as_bytes-words.ensures.value ∙ c.words_of.ensures in
    let fits : leb (length words) (length text) ≡ true = le-leb (length words) (length text) (omega (arith, ap length is)) in
    record { answered = ap length is; stored = rw fits (c.store.ensures ∙ ap (λ t. padded (length text) t) is) }
