-- A byte that is no digit ends the value, and so does a tenth digit.
use Rattle.std.proofs.Common.{◌≡◌, ◌+◌, ◌-◌, ◌*◌, ◌^◌, ◌<◌, ◌≤◌, ℕ, arith, sym, ap, ◌∙◌, refl}
use Rattle.file_burst.specs.Lines.Prelude.{drop}
use native.Mathlib.Nat.{pow-le-pow_right}
use Rattle.file_burst.specs.Lines.Line.{digits_from}
use Rattle.file_burst.proofs.lines.Bytes as bytes
use Rattle.file_burst.proofs.lines.scanning.next_value.Goals as goal

-- fewer than nine digits make a number below 10 ^ 8
room : (count value : ℕ) → value < 10 ^ count → count ≤ 8 → value < 10 ^ 8
room count value h k = omega (arith, h, pow-le-pow_right {n = 10} (omega arith) k)

pub loop-i-init : goal.loop-i-init
loop-i-init c = let none : c.args.at - c.args.at ≡ 0 = omega arith in rw none (record { count = omega arith; behind = omega arith; small = omega arith; is = refl })

pub returns-in-None : goal.returns-in-None
returns-in-None c =
    c.ended.ensures ∙ sym (bytes.digits-off _ c.loop-i.i (omega arith) _ c.loop-i.value (sym c.in-None.ensures.0)) ∙ c.loop-i.invariant.is

pub returns-then-count-eq-DIGITS_MOST : goal.returns-then-count-eq-DIGITS_MOST
returns-then-count-eq-DIGITS_MOST c =
    sym (bytes.digits-many _ c.loop-i.i (omega arith) _ c.loop-i.value (λ e. absurd (omega (arith, e, c.in-Some.ensures.0, c.in-Some.ensures.1))) c.if-count-eq-DIGITS_MOST.true) ∙ c.loop-i.invariant.is

pub overflow_mul-value : goal.overflow_mul-value
overflow_mul-value c = omega (arith, room (c.loop-i.i - c.args.at) c.loop-i.value c.loop-i.invariant.small (omega (arith, c.loop-i.invariant.count, c.if-count-eq-DIGITS_MOST.false)))

pub overflow_add-value : goal.overflow_add-value
overflow_add-value c =
    omega (arith, room (c.loop-i.i - c.args.at) c.loop-i.value c.loop-i.invariant.small (omega (arith, c.loop-i.invariant.count, c.if-count-eq-DIGITS_MOST.false)), c.in-Some.ensures.1)

pub loop-i-preserved : goal.loop-i-preserved
loop-i-preserved c =
    let inv = c.loop-i.invariant in
    let n = c.loop-i.i - c.args.at in
    let file = c.args.file.now in
    let next : c.loop-i.i + 1 - c.args.at ≡ n + 1 = omega (arith, inv.behind) in
    let small : c.in-Some.digit < 10 = omega (arith, c.in-Some.ensures.1) in
    rw next
    (record {
      count = omega (arith, inv.count, c.if-count-eq-DIGITS_MOST.false);
      behind = omega (arith, inv.behind);
      small = bytes.digit-more c.loop-i.value n c.in-Some.digit inv.small small;
      is =
          ap (λ (x : ℕ). digits_from (n + 1) (c.loop-i.value * 10 + x) (drop (c.loop-i.i + 1) file)) c.in-Some.ensures.0
          ∙ bytes.digits-on _ c.loop-i.i (omega arith) n c.loop-i.value (λ e. absurd (omega (arith, e, c.in-Some.ensures.0, c.in-Some.ensures.1))) c.if-count-eq-DIGITS_MOST.false
          ∙ inv.is;
    })

pub returns : goal.returns
returns c = sym (bytes.digits-end c.args.file.now c.loop-i.i _ _ (omega arith)) ∙ c.loop-i.invariant.is
