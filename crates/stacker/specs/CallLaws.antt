-- The answer beside a refusal with the number k, and beside acceptance.
use Rattle.std.specs.Prelude.{◌≡◌}
use Rattle.algebra.specs.Prelude.{sym, ◌∙◌, List, ℕ}
use Rattle.refusals.specs.AfterLaws.{kept, made}
use Rattle.stacker.specs.declared.Alignment.{Alignment}
use Rattle.stacker.specs.Calls.{no_sums, answered}

-- the three fields of an answer
made-answer : {k m : ℕ} {l n : List ℕ} {x y : ℕ} → k ≡ m → l ≡ n → x ≡ y → ◌≡◌ {A = Alignment} (record { refusal = k; residuals = l; rows = x }) (record { refusal = m; residuals = n; rows = y })
made-answer a b c = rw (a, b, c)

pub answer-refused : {k : ℕ} (number : ℕ) (sums : List ℕ) (rows : ℕ) → k ≡ number → (k ≡ 0 → ⊥) → ◌≡◌ {A = Alignment} (record { refusal = k; residuals = no_sums; rows = 0 }) (answered number sums rows)
unfolding answered
answer-refused number sums rows e h = made-answer e (kept number no_sums sums e h) (kept number 0 rows e h)

pub answer-accepted : {k : ℕ} {x : List ℕ} {n : ℕ} (number : ℕ) (sums : List ℕ) (rows : ℕ) → k ≡ number → k ≡ 0 → x ≡ sums → n ≡ rows → ◌≡◌ {A = Alignment} (record { refusal = 0; residuals = x; rows = n }) (answered number sums rows)
unfolding answered
answer-accepted number sums rows e z is are = made-answer (sym z ∙ e) (made number no_sums sums e z is) (made number 0 rows e z are)
