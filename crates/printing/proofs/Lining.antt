-- A text put piece by piece: what is put so far and what is left make the whole.
use Rattle.std.specs.Prelude.{◌≡◌, ◌++◌, ◌+◌, ◌-◌, ◌*◌, ◌<◌, ◌≤◌, drop, take, get_or, [], List, ℕ, length}
use Rattle.std.proofs.Common.{ap, sym, ◌∙◌, arith, append_assoc, append-nil, length-append}
use Rattle.printing.specs.Lines.{value, number_line, sample_rows}
use Rattle.printing.specs.LineLaws.{line-next, rows_next}

pub record Putting (old whole put rest : List ℕ) : Type 0 where
  pub joined : put ++ rest ≡ old ++ whole

-- what begins with a piece
pub record Begins (rest piece more : List ℕ) : Type 0 where
  pub is : rest ≡ piece ++ more

module _ {old whole put rest : List ℕ} (so_far : Putting old whole put rest) where
  -- the next piece has room where the whole has
  pub fits : {piece more : List ℕ} {room : ℕ} → Begins rest piece more → length old + length whole ≤ room → length put + length piece ≤ room
  fits {piece} {more} {room} e h =
      let all : length put + length rest ≡ length old + length whole = sym (length-append put rest) ∙ ap length so_far.joined ∙ length-append old whole in
      let parts : length rest ≡ length piece + length more = ap length e.is ∙ length-append piece more in
      omega arith

  pub turn : {piece more next : List ℕ} → Begins rest piece more → next ≡ put ++ piece → Putting old whole next more
  turn {piece} {more} {next} e p = record { joined = ap (λ x. x ++ more) p ∙ append_assoc put piece more ∙ ap (λ x. put ++ x) (sym e.is) ∙ so_far.joined }

  pub done : rest ≡ [] → put ≡ old ++ whole
  done e = sym (append-nil put) ∙ ap (λ x. put ++ x) (sym e) ∙ so_far.joined

pub next_value : (ns : List ℕ) (k : ℕ) → k < length ns → Begins (number_line (drop k ns)) (value (get_or ns k 0) (length ns - (k + 1))) (number_line (drop (k + 1) ns))
next_value ns k h = record { is = line-next ns k h }

pub next_row : (width height : ℕ) (samples : List ℕ) (row : ℕ) → row < height → Begins (sample_rows width (height - row) (drop (row * width) samples)) (number_line (take width (drop (row * width) samples))) (sample_rows width (height - (row + 1)) (drop ((row + 1) * width) samples))
next_row width height samples row h = record { is = rows_next width height samples row h }
